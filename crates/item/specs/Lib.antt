pub mod Code
pub mod Answers
pub mod Steps
pub mod Laws
pub mod Ranges
pub mod Widths
