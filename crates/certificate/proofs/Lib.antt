pub mod Openings
pub mod PartFacts
