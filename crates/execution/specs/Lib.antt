pub mod Steps
pub mod Laws
