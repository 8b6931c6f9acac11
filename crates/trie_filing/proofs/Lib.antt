pub mod Filling
pub mod Firsts
pub mod Once
