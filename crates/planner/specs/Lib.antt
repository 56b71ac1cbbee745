pub mod Refusals
pub mod Goals
pub mod Held
pub mod Writing
pub mod Scripts
pub mod Planning
