pub mod Scans
pub mod Missing
