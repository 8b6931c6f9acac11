pub mod Held
pub mod Both
pub mod Terms
pub mod Lines
