pub mod Deviating
