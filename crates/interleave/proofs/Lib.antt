pub mod Interleave
