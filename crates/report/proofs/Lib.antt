pub mod Digits
pub mod Examples
pub mod Texts
pub mod Values
