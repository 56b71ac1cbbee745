pub mod Piles
pub mod Laws
pub mod Runs
