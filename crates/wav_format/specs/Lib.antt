pub mod Wave
pub mod Extended
pub mod Samples
pub mod Cases
pub mod Compute
