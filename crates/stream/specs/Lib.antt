pub mod LastLines
pub mod Program
pub mod Texts
