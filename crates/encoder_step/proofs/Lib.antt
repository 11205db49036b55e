pub mod Cascade
pub mod Nearest
pub mod Rows
pub mod Choice
