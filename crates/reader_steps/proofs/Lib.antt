pub mod Laws
pub mod Sections
