pub mod Entries
pub mod EntrySpelling
pub mod EntryFits
pub mod Relations
