pub mod Grows
pub mod Branching
