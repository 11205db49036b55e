pub mod Lanes
pub mod Running
pub mod Unpacking
