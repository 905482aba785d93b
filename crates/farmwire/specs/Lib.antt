pub mod Lawful
pub mod Lines
pub mod Refusals
pub mod Sealed
pub mod Words
