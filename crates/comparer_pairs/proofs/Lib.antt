pub mod Marking
pub mod Spelled
pub mod Looks
