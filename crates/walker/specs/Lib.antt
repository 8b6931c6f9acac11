pub mod Walks
pub mod Machines
