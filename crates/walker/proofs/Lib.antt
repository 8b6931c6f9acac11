pub mod Words
pub mod Tables
pub mod Steps
pub mod Turns
