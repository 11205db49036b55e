pub mod Groups
pub mod Play
