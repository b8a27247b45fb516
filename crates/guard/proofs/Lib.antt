pub mod Laws
pub mod Readable
