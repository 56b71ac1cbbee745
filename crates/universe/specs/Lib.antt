pub mod Sets
pub mod Tables
pub mod Refusals
pub mod Reading
pub mod Packed
pub mod Held
