pub mod Laws
pub mod Twos
pub mod Raised
