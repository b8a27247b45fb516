pub mod Rules
pub mod Depths
pub mod Tests
pub mod Steps
