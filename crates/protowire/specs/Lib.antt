pub mod BodyLists
pub mod Fields
pub mod Lookups
pub mod Reading
pub mod Seen
pub mod SharedBytes
pub mod Varints
pub mod Writing
