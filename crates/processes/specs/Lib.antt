pub mod Farms
pub mod Looked
pub mod Served
