pub mod Fields
pub mod Together
