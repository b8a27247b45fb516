pub mod Forward
pub mod Parts
