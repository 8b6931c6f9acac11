pub mod Verdicts
pub mod Spots
pub mod Failing
pub mod Given
