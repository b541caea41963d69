pub mod Archive
pub mod Cases
