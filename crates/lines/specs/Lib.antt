pub mod Checking
pub mod Constants
pub mod Frame
pub mod Slots
pub mod Faults
