pub mod Values
pub mod TwosComplement
