pub mod Words
pub mod Coefficients
pub mod Multiples
pub mod Saying
