-- The laws of signed arithmetic, for the proofs of this crate and of its callers.
pub mod Diff
pub mod Ring
pub mod Order
pub mod Extremes
pub mod Abs
pub mod Rules
pub mod Reading
pub mod Words
pub mod Small
pub mod Within
pub mod Product
pub mod Promises
