pub mod Checkable
pub mod Sums
