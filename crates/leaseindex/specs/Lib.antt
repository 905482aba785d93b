pub mod Index
pub mod Instances
pub mod Counts
pub mod Live
pub mod Marks
