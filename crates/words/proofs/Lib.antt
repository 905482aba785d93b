pub mod ListLemmas
pub mod PlainLemmas
pub mod Spelling
pub mod WantLemmas
pub mod WordLemmas
