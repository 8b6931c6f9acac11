pub mod Queue
pub mod Search
pub mod Reached
