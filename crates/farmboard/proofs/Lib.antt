pub use Rattle.farmhistory.proofs.ReplayLemmas
pub mod BeginLemmas
pub mod LookLemmas
pub mod SettleLemmas
