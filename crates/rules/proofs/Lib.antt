pub mod Masks
pub mod Entries
pub mod Foreseeing
pub mod Covered
pub mod GapTelling
pub mod Losing
pub mod Opened
