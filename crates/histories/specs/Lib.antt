pub mod History
pub mod Marks
pub mod Theorems
