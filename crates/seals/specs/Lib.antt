pub mod Hashers
pub mod Keyrings
pub mod Macs
pub mod Seals
