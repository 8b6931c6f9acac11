pub mod Marks
pub mod Leads
pub mod Rounds
