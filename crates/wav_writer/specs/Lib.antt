pub mod Writer
pub mod Cases
