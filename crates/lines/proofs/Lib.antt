pub mod Packing
pub mod Coding
