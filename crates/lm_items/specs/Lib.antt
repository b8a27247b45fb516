pub mod Asked
pub mod Same
