pub mod Blocks
pub mod Negations
pub mod Totals
pub mod Weights
pub mod Zeros
