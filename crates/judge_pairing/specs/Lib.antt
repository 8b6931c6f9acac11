pub mod Lent
pub mod Marked
pub mod Unpaired
