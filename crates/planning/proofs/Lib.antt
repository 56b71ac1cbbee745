pub mod Lines
pub mod Rooms
