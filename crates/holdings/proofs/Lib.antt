pub mod PlaceLemmas
pub mod LifeLemmas
pub mod NodeLemmas
pub mod RisingLemmas
pub mod LeaseLemmas
