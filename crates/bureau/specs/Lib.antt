pub mod Bounds
pub mod Decimal
pub mod Printable
