pub use Rattle.parked.specs.Queue
pub use Rattle.parked.specs.Waiting
pub mod Spent
pub mod Held
pub mod Keeps
pub mod Shown
pub mod Sound
