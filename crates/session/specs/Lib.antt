pub mod Events
pub mod Instants
pub mod Lists
pub mod Records
pub mod Theorems
pub mod Working
