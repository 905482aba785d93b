pub mod Lives
pub mod Stores
