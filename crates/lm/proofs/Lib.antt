pub mod Cases
pub mod Spelling
pub mod Pieces
pub mod Rows
pub mod FirstOctet
pub mod Demand3Lm
pub mod Demand2
pub mod UserData
