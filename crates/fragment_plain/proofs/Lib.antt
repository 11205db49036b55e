pub mod Run
pub mod Fragments
