pub mod Choices
pub mod Records
