pub mod Stores
pub mod Loads
pub mod Held
pub mod Sequence
