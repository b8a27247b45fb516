pub mod Gaps
pub mod Written
