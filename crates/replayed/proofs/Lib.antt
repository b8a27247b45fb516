pub mod Recordings
pub mod Worked
