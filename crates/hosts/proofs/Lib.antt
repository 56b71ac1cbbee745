pub mod Offending
pub mod Growing
pub mod Heights
pub mod Deciding
pub mod Watching
