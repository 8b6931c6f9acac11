pub mod Numbered
pub mod Held
