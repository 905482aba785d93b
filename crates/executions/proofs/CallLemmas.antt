-- What an executor keeps of its calls.
use Rattle.std.proofs.Common.{inl, inr, List}
use Rattle.names.specs.declared.digest.Key.{Key}
use Rattle.executions.specs.declared.call.Call.{Call}
use Rattle.executions.specs.declared.call.ExecOutcome.{ExecOutcome}
use Rattle.executions.specs.Calls.{MadeOneAtMost}
use Rattle.executions.specs.Given.{CalledOnceAtMost}
use Rattle.executions.specs.TaskParts.{TaskParts}

-- a call with a task of the lease is a call
pub once_made : (IsGiven : TaskParts → Type 0) (answers : TaskParts → ExecOutcome → Type 0) (key : Key) (old new : List Call)
    → CalledOnceAtMost key IsGiven answers old new → MadeOneAtMost key old new
once_made IsGiven answers key old new called = elim called [ inl same ↦ inl same | inr one ↦ inr (one.0, one.1) ]
