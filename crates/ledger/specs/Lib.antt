pub use Rattle.saverecord.specs.Keepers
pub use Rattle.saverecord.specs.Logs
pub use Rattle.saverecord.specs.Texts
pub use Rattle.saverecord.specs.declared.refusal.KeeperRefusal
pub mod Keeping
pub mod Prepared
pub mod Seen
pub mod Settling
