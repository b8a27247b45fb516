pub mod Records
pub mod Steps
pub mod Sequence
pub mod OfLm
pub mod Cases
