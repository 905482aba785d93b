pub use Rattle.reasons.specs.Answers
pub mod NewCalls
pub mod Receipts
pub mod Standing
