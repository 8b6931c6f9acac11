pub mod Pairs
pub mod Marks
pub mod Queue
pub mod Sides
