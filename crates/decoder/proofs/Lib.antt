pub mod Turns
pub mod InStep
pub mod DecodeLoop
pub mod Lanes
pub mod Decoding
