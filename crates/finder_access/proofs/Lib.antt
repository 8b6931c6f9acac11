pub mod Queueing
pub mod Counting
pub mod Searching
pub mod Backwards
pub mod Covering
