pub mod Flow
pub mod Keeping
pub mod Octets
pub mod Roots
pub mod Settled
