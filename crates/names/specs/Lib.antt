pub mod Contents
pub mod Decimals
pub mod Digests
pub mod Escapes
pub mod Folders
pub mod Modes
pub mod Names
pub mod Slots
