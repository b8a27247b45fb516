pub mod Complement
mod LittleEndian
pub mod Stores
pub mod TwosComplement
