pub mod Rows
pub mod Standing
pub mod Sized
