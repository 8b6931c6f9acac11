pub mod Ordering
pub mod Ranking
