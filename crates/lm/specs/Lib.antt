pub mod ByName
pub mod Demand3Lm
pub mod Cases
pub mod Clause5
pub mod Demand2
pub mod UserData
