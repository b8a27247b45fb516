pub mod Decimal
mod Signs
pub mod Texts
pub mod Told
