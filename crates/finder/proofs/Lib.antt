pub mod Finding
pub mod Sections
pub mod Laying
