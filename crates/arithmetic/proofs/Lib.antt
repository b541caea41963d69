pub mod Adding
pub mod Checkables
pub mod Cutting
pub mod Deciding
pub mod Named
pub mod Turns
pub mod Words
