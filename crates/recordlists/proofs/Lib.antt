pub mod EntryLoop
pub mod Rows
pub mod EntryLaws
pub mod PartLaws
