pub mod EntryLemmas
pub mod OrderLaws
pub mod RowLemmas
pub mod SortingLemmas
pub mod TableLemmas
