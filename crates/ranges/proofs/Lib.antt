pub mod Extents
pub mod Insides
pub mod Outcomes
pub mod Sessions
pub mod Staying
pub mod Tables
pub mod Words
