pub mod Backwards
pub mod Answering
