mod SeatLemmas
mod PoolLemmas
pub mod FewLemmas
mod TurnLemmas
mod CallLemmas
mod SafeLemmas
mod OrderLemmas
mod MeaningLemmas
mod LimitLemmas
mod LawfulLemmas
