pub mod Answers
pub mod Promises
pub mod Lengths
pub mod Cases
