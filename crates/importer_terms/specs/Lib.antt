pub mod Terms
pub mod Entries
