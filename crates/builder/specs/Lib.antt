pub mod BuiltAccepted
