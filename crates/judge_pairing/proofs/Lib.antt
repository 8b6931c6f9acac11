pub mod Marks
pub mod Pairs
