pub mod Refusals
pub mod Promise
pub mod Taken
pub mod Goals
