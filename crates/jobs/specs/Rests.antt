-- A history in which nothing is left to do (this project's own).
use Rattle.std.specs.Prelude.{◌≡◌, ◌<◌, ℕ, Some, slice_get}
use Rattle.std.specs.List.{Contains}
use Rattle.names.specs.declared.digest.Key.{Key}
use Rattle.keytable.specs.declared.entry.Entry.{Entry}
use Rattle.keytable.specs.declared.entry.Progress.TheVariants.{Out}
use Rattle.keytable.specs.Failing.{IsSubmitted}
use Rattle.jobs.specs.History.{History, HasNoReady}
use Rattle.keytable.specs.Users.{IsClosed}

module _ (h : History) where
  -- each key that a job or an input names was submitted
  pub record IsWhole : Type 0 where
    pub jobs : (job : ℕ) (wanted : Key × ℕ) → slice_get h.jobs job ≡ Some wanted → (entry : Entry) × IsSubmitted h.keys wanted.0 entry
    pub inputs : IsClosed h.keys

  -- each key has a higher rank than the keys of its inputs, so no key takes an output of its own
  abbrev pub IsRanked : (Key → ℕ) → Type 0
  IsRanked rank = (number : ℕ) (entry : Entry) (input : Key × ℕ) → slice_get h.keys number ≡ Some entry → Contains entry.inputs input → rank input.0 < rank entry.key

  -- no key is ready, and none is being solved
  pub record IsAtRest : Type 0 where
    pub none_ready : HasNoReady h
    pub none_out : (number : ℕ) (entry : Entry) → slice_get h.keys number ≡ Some entry → entry.progress ≡ Out → ⊥
