pub mod Naming
pub mod Climbing
pub mod Wanting
pub mod Placing
pub mod Linking
pub mod Promising
