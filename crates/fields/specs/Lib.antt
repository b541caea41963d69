pub mod Fields
pub mod Written
