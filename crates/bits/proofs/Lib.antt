pub mod Bits
pub mod Width
pub mod Splice
pub mod Access
pub mod Octets
