pub mod SoFar
pub mod Bested
pub mod Front
pub mod Fragment
