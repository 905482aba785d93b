pub use Rattle.executions.specs.Calls
pub use Rattle.executions.specs.declared.call.Call
pub use Rattle.farmboard.specs.Replays
pub use Rattle.farmend.specs.Answers
pub mod Downs
pub mod Ends
