pub use Rattle.farmboard.proofs.ReplayLemmas
pub mod CallLemmas
pub mod LiveLemmas
