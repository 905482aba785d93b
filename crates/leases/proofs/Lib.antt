pub mod TableLemmas
pub mod LowestLaw
pub mod RetiredLemmas
pub mod SavedLemmas
pub mod ChangeLemmas
