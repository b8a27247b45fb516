pub mod Branches
pub mod FirstOctet
