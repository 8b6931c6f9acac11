pub mod Middles
pub mod Places
pub mod Parents
