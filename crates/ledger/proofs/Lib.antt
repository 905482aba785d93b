pub mod Entries
pub mod Growing
pub mod Keeping
pub mod Records
