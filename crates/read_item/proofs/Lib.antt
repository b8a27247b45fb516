pub mod Outcomes
pub mod WholeOctet
