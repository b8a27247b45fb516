pub mod Offsets
pub mod Rows
pub mod Kinds
pub mod Fits
