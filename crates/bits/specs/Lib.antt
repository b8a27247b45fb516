pub mod Bits
pub mod Width
pub mod Access
