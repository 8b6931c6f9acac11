pub mod Parts
pub mod Lines
pub mod Fields
