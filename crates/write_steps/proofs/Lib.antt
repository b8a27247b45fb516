pub mod Flow
pub mod Putting
pub mod Octets
pub mod Ends
