mod Parts
mod Running
mod Runs
pub mod Texts
