mod ServingLemmas
pub mod SaysLemmas
pub mod SentLemmas
pub mod NoteLemmas
