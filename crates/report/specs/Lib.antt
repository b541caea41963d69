pub mod Call
pub mod Decimal
pub mod Line
pub mod Words
pub mod Written
