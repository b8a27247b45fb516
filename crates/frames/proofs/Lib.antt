mod Example
pub mod Fronts
