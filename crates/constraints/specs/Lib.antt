pub mod Layout
pub mod Linear
pub mod Ready
pub mod Rules
