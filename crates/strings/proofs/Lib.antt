pub mod Lengths
pub mod Wholes
