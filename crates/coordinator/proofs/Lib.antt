pub use Rattle.ledger.proofs.Records
pub mod Answering
pub mod Drafted
pub mod Kept
pub mod Recording
pub mod Rightful
