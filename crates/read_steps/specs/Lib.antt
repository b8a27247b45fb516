pub mod Reads
pub mod Ends
