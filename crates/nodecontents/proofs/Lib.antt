pub mod MapLemmas
pub mod StoredLemmas
