-- What an executor keeps of its calls (this project's own).
use Rattle.std.specs.Prelude.{⊤, ◌≡◌, ◌⊎◌, ℤ, List, [], ◌∷◌, ◌++◌, Result, Ok, Err}
use Rattle.names.specs.declared.digest.Digest.{Digest}
use Rattle.names.specs.declared.digest.Key.{Key}
use Rattle.executions.specs.declared.call.Call.{Call}
use Rattle.executions.specs.declared.call.ExecOutcome.{ExecOutcome}
use Rattle.executions.specs.declared.call.ExecOutcome.TheVariants.{Done, Failed, OutOfMemory}

abbrev pub call : Key → Result (List Digest) ℤ → Call
call key result = record { key = key; result = result }

-- a run that answers Done or Failed adds exactly its call at the end, one that answers OutOfMemory adds none
abbrev pub Adds : Key → List Call → ExecOutcome → List Call → Type 0
Adds key old (Done outputs edits) new = new ≡ old ++ call key (Ok outputs) ∷ []
Adds key old (Failed status) new = new ≡ old ++ call key (Err status) ∷ []
Adds key old OutOfMemory new = new ≡ old

-- no call was made, or one, for this key
abbrev pub MadeOneAtMost : Key → List Call → List Call → Type 0
MadeOneAtMost key old new = (new ≡ old) ⊎ ((outcome : ExecOutcome) × Adds key old outcome new)

-- these calls, and some later ones
abbrev pub Grew : List Call → List Call → Type 0
Grew old new = (more : List Call) × (new ≡ old ++ more)

-- the execution was carried out
abbrev pub IsAnswer : ExecOutcome → Type 0
IsAnswer (Done outputs edits) = ⊤
IsAnswer (Failed status) = ⊤
IsAnswer OutOfMemory = ⊥
