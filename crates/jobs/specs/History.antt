-- What a table of jobs keeps for good, and the answer of each job (this project's own).
use Rattle.std.specs.Prelude.{◌≡◌, ◌<◌, ℕ, List, Result, Ok, Err, Some, slice_get, slice_set}
use Rattle.std.specs.List.{AllZip}
use Rattle.names.specs.declared.digest.Key.{Key}
use Rattle.names.specs.declared.digest.Digest.{Digest}
use Rattle.jobs.specs.declared.answer.Answer.{Answer}
use Rattle.jobs.specs.declared.answer.Answer.TheVariants as answers
use Rattle.jobs.specs.declared.answer.JobsRefusal.{JobsRefusal}
use Rattle.jobs.specs.declared.answer.JobsRefusal.TheVariants.{NoOutput}
use Rattle.keytable.specs.declared.entry.Entry.{Entry}
use Rattle.keytable.specs.declared.entry.Progress.{Progress}
use Rattle.keytable.specs.declared.entry.Progress.TheVariants.{Out}
use Rattle.keytable.specs.Failing.{Fails, IsDone, HasOutput, LacksOutput, IsReady}

-- the submitted jobs, each by the key and the output index of its result, and the submitted keys
-- with their inputs and their progress, both in order
pub record History : Type 0 where
  pub jobs : List (Key × ℕ)
  pub keys : List Entry

-- the answer of the job with this result: the named output, or that its key fails, or else waiting.
-- It is refused where the key is done without that output
pub data IsAnswer (keys : List Entry) (wanted : Key × ℕ) (given : Result Answer JobsRefusal) : Type 0 where
  output : (digest : Digest) → HasOutput keys wanted digest → given ≡ Ok (answers.Output digest) → IsAnswer keys wanted given
  lacks : LacksOutput keys wanted → given ≡ Err (NoOutput wanted.1) → IsAnswer keys wanted given
  fails : Fails keys wanted.0 → given ≡ Ok answers.Failed → IsAnswer keys wanted given
  waits : ((outputs : List Digest) → IsDone keys wanted.0 outputs → ⊥) → (Fails keys wanted.0 → ⊥) → given ≡ Ok answers.Waiting → IsAnswer keys wanted given

-- a key that stood at one progress stands at another, and nothing else changed
pub record Moves (old : History) (key : Key) (from to : Progress) (new : History) : Type 0 where
  pub number : ℕ
  pub entry : Entry
  pub at : slice_get old.keys number ≡ Some entry
  pub named : entry.key ≡ key
  pub was : entry.progress ≡ from
  pub new_is : new ≡ record old { keys = slice_set old.keys number (record entry { progress = to }) }

-- the first key that is ready
pub record IsFirstReady (keys : List Entry) (number : ℕ) (entry : Entry) : Type 0 where
  pub at : slice_get keys number ≡ Some entry
  pub ready : IsReady keys entry
  pub first : (before : ℕ) (other : Entry) → before < number → slice_get keys before ≡ Some other → IsReady keys other → ⊥

-- the first ready key is handed out, with the outputs that its inputs name, in order, and is being solved from then on
pub record TakesFirst (old : History) (key : Key) (inputs : List Digest) (new : History) : Type 0 where
  pub number : ℕ
  pub entry : Entry
  pub first : IsFirstReady old.keys number entry
  pub named : entry.key ≡ key
  pub inputs_are : AllZip (HasOutput old.keys) entry.inputs inputs
  pub new_is : new ≡ record old { keys = slice_set old.keys number (record entry { progress = Out }) }

-- no key is ready
abbrev pub HasNoReady : History → Type 0
HasNoReady h = (number : ℕ) (entry : Entry) → slice_get h.keys number ≡ Some entry → IsReady h.keys entry → ⊥
