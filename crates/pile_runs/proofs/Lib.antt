pub mod Piles
pub mod Running
pub mod Telling
