pub mod Parts
pub mod InWindow
