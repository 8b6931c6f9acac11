pub mod Lowest
pub mod Reading
pub mod Telling
