pub mod Refusals
pub mod Numbers
pub mod Filled
pub mod Runs
pub mod Calls
