pub mod Orders
pub mod Turns
pub mod Stepping
pub mod Judged
pub mod FirstBad
pub mod Emptied
pub mod Checked
