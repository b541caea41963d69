pub mod Cases
pub mod Limits
pub mod Numbering
