pub mod Ready
pub mod Suite
