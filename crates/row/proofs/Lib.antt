pub mod Bools
pub mod Offsets
pub mod ByKind
pub mod Fits
