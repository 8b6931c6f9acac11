pub mod Bounds
pub mod Joined
pub mod Bridge
pub mod Held
