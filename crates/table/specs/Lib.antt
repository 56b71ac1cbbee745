pub mod Rows
pub mod Fit
pub mod Records
pub mod Covers
pub mod Table
