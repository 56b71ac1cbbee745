pub mod Closing
pub mod Planning
