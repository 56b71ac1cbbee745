pub mod Planned
pub mod Starting
