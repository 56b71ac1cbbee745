pub mod Ending
pub mod Lines
pub mod Standing
pub mod Waiting
pub mod Laws
