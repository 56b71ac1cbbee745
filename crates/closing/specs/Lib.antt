pub mod Places
pub mod Listing
pub mod Ranks
pub mod Kept
pub mod Order
