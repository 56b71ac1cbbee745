pub mod Masks
pub mod Tracking
pub mod Rounds
pub mod Ranking
pub mod Lookups
