pub mod Commands
pub mod Cases
