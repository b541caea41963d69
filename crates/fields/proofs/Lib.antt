pub mod FromBytes
pub mod TwosComplement
pub mod Written
