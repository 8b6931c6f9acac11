pub mod Scanning
pub mod Counting
