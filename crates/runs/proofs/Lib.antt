pub mod Acting
pub mod Stages
pub mod Following
pub mod Promising
pub mod Answering
pub mod Meeting
