pub mod Tests
pub mod ListTests
