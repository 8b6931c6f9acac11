pub mod Filing
pub mod Looking
pub mod Standing
