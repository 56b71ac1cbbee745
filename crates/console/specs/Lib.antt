pub mod Refused
pub mod Told
pub mod Described
pub mod Hex
