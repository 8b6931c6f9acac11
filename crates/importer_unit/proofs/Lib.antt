pub mod Silences
pub mod Holding
pub mod Inverse
