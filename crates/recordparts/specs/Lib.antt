pub mod Parts
pub mod Layouts
pub mod Slots
pub mod Spelling
pub mod Fits
