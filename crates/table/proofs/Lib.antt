pub mod Decides
pub mod Checks
pub mod Cases
pub mod Obeyed
pub mod LastRow
pub mod Walk
pub mod Found
pub mod Summary
