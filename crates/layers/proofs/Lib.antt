pub mod Passing
pub mod Relaying
