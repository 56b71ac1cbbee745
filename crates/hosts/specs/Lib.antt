pub mod Refusals
pub mod Survey
pub mod Offences
pub mod Loads
pub mod Service
pub mod Answers
pub mod Laws
