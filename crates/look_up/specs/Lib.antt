pub mod Visits
pub mod Visited
pub mod Looking
pub mod LookUp
pub mod Theorems
