pub mod Fronts
mod Headers
