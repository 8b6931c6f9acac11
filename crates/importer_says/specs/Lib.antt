pub mod Directives
pub mod Fields
pub mod Said
