pub mod Leading
pub mod Marking
pub mod Rounding
