pub mod SampleLoop
pub mod Written
pub mod Fields
pub mod RoundTrip
pub mod Preview
pub mod Checks
pub mod Claims
pub mod Uses
