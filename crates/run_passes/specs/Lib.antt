pub mod Pass
pub mod Zeroed
