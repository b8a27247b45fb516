pub mod CodeLaws
pub mod Leading
pub mod Branches
pub mod Integers
pub mod Naturals
pub mod Ranges
pub mod Widths
pub mod Returned
