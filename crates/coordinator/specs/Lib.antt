pub use Rattle.effects.specs.Held
pub use Rattle.ledger.specs.Seen
pub mod Promises
pub mod Settling
