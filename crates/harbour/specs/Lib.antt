pub mod Harbour
pub mod Plans
pub mod Checks
pub mod Runs
pub mod Cases
