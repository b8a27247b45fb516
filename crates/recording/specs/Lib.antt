pub mod Frames
pub mod Part
