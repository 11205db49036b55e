pub mod Outcome
pub mod Table
pub mod Tests
