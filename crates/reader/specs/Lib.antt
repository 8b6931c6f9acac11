pub mod Places
pub mod Shapes
pub mod Chains
pub mod Standing
pub mod Turns
