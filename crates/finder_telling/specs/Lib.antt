pub mod Pairs
pub mod Read
