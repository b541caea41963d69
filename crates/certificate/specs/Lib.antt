pub mod Opening
pub mod Turned
