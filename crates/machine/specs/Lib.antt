pub mod Counts
pub mod Machine
