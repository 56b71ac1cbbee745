pub mod Refusals
pub mod Judging
pub mod Replaying
pub mod Passing
pub mod Checking
