pub mod Leading
pub mod Searching
pub mod Telling
pub mod Trying
