pub mod Ports
pub mod Finding
pub mod Opening
