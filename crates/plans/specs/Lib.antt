pub mod Lists
pub mod Closing
pub mod Needs
pub mod Plan
pub mod Goals
pub mod Script
pub mod Laws
