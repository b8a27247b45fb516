pub mod Octets
pub mod Cut
pub mod Aligned
