pub mod UserData
pub mod Headers
pub mod Placed
pub mod Cases
