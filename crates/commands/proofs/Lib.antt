pub mod Printing
pub mod Claims
pub mod Checks
pub mod Uses
