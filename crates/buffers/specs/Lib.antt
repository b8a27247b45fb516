pub mod Held
pub mod InputOutput
