pub mod Demands
pub mod Telling
pub mod Zero
