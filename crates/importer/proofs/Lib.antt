pub mod Ranks
pub mod Ending
