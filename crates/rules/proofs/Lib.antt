pub mod Depths
pub mod ByKind
pub mod Steps
pub mod Loops
pub mod Halves
pub mod Reasons
