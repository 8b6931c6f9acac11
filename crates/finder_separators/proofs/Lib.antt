pub mod Keeping
pub mod Copying
