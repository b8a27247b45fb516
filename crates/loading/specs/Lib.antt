pub mod State
pub mod Sequence
