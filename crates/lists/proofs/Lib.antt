pub mod ByIndex
pub mod Parts
pub mod Tables
pub mod Tests
pub mod Least
pub mod Letters
