pub mod Summed
pub mod Leading
pub mod Meeting
