pub mod Fronts
pub mod Formats
pub mod Steps
