pub mod Untested
pub mod Lacking
