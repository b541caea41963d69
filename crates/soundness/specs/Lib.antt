pub mod Demands
pub mod Files
pub mod Starred
pub mod Theorems
