pub mod Faults
pub mod Verdict
pub mod Checks
pub mod Cases
pub mod Root
pub mod Summary
pub mod Found
