pub mod EncodeLoop
pub mod Encoding
