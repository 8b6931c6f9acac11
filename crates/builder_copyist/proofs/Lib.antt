pub mod Writing
pub mod Fitted
pub mod Promised
