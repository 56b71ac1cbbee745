pub mod Places
pub mod Stepping
pub mod Lowered
pub mod Layered
pub mod Telling
