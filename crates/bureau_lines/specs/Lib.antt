pub mod Lines
pub mod OneLine
