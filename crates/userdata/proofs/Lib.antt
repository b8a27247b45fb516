pub mod Taken
pub mod Outcome
pub mod Room
pub mod Placed
pub mod Cases
