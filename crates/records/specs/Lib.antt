pub mod Bytes
pub mod Kinds
