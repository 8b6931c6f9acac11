pub mod Model
pub mod Holds
pub mod Grow
pub mod Words
pub mod Values
pub mod Sizes
