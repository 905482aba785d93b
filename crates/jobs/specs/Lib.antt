pub mod Growth
pub mod History
pub mod Kept
pub mod ReadyLists
pub mod Rests
pub mod Tasks
