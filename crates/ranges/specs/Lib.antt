pub mod Listing
pub mod Outcome
pub mod Results
pub mod Table
pub mod Theorems
