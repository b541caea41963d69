pub mod Limits
pub mod Operators
