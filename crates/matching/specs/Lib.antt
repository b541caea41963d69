pub mod Content
pub mod Factors
