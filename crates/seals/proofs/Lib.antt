pub mod MacLemmas
