pub mod Beginnings
pub mod Records
