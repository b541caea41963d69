pub mod Histories
pub mod Parts
