pub mod Cases
pub mod Checks
pub mod Files
pub mod Runs
