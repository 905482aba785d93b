pub mod AgainLemmas
pub mod FetchLemmas
pub mod NodeLemmas
pub mod FirstLemmas
pub mod KeptLemmas
pub mod SendLemmas
