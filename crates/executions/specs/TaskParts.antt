-- What a contract sees of a task (this project's own).
use Rattle.std.specs.Prelude.{ℕ, List, Option}
use Rattle.names.specs.declared.digest.Digest.{Digest}
use Rattle.names.specs.declared.digest.Key.{Key}
use Rattle.opsproto.specs.Scalars.{Text}
use Rattle.opsproto.specs.declared.exec.ExecOp.{ExecOp}
use Rattle.executions.specs.declared.task.View.{View}

pub record TaskParts : Type 0 where
  pub key : Key
  pub stripped : List ℕ
  pub exec : Option (ExecOp Text)
  pub inputs : List Digest
  pub views : List View
