pub mod Accepted
pub mod Halved
pub mod NeedsVersion2
