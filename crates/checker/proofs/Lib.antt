pub mod Accepting
