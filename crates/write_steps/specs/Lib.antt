pub mod Writes
pub mod Ends
