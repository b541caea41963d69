pub mod Demands
pub mod Soundness
pub mod StarredCases
