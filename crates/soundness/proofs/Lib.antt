pub mod Sized
pub mod Soundness
pub mod Behind
