pub mod Flags
pub mod Laws
pub mod Table
pub mod Tests
pub mod Claims
pub mod Uses
