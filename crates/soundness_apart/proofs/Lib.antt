pub mod Remembered
pub mod Rows
