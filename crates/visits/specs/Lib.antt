pub mod Visits
pub mod Reached
