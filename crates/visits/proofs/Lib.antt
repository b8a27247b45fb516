pub mod Rows
pub mod Unmarked
pub mod Spaced
pub mod Visits
pub mod Reached
