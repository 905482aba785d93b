pub mod Batches
pub mod Left
pub mod Seen
