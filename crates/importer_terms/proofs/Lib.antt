pub mod Bits
pub mod Differing
pub mod Naming
pub mod Entering
