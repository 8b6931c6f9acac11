pub mod Visits
pub mod Maximal
pub mod Nodes
