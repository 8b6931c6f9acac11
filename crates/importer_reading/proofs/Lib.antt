pub mod Following
pub mod TwoNames
pub mod OneTerm
pub mod AllLines
