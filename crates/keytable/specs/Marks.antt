-- Marks on the submitted keys that fail (this project's own).
use Rattle.std.specs.Prelude.{◌≡◌, ℕ, Bool, true, List, Some, slice_get, length}
use Rattle.std.specs.List.{Contains}
use Rattle.names.specs.declared.digest.Key.{Key}
use Rattle.ordering.specs.Flags.{flag_at}
use Rattle.keytable.specs.declared.entry.Fault.{Fault}
use Rattle.keytable.specs.declared.entry.Entry.{Entry}
use Rattle.keytable.specs.declared.entry.Progress.TheVariants.{Failed}
use Rattle.keytable.specs.Failing.{Fails, LacksOutput}

module _ (keys : List Entry) (marks : List Bool) where
  -- the key is marked
  pub record IsMarked (key : Key) : Type 0 where
    pub number : ℕ
    pub entry : Entry
    pub at : slice_get keys number ≡ Some entry
    pub named : entry.key ≡ key
    pub marked : flag_at marks number ≡ true

  -- an input that never comes: its key is marked, or is done without the named output
  pub data IsLost (input : Key × ℕ) : Type 0 where
    is_marked : IsMarked input.0 → IsLost input
    is_lacking : LacksOutput keys input → IsLost input

  -- one of these inputs never comes
  pub record HasLost (inputs : List (Key × ℕ)) : Type 0 where
    pub input : Key × ℕ
    pub has : Contains inputs input
    pub lost : IsLost input

  -- only keys that fail are marked
  abbrev pub MarksFail : Type 0
  MarksFail = (number : ℕ) (entry : Entry) → slice_get keys number ≡ Some entry → flag_at marks number ≡ true → Fails keys entry.key

  -- each key that was called failed is marked
  abbrev pub MarksCalled : Type 0
  MarksCalled = (number : ℕ) (entry : Entry) (fault : Fault) → slice_get keys number ≡ Some entry → entry.progress ≡ Failed fault → flag_at marks number ≡ true

  -- each key with an input that never comes is marked
  abbrev pub MarksLost : Type 0
  MarksLost = (number : ℕ) (entry : Entry) → slice_get keys number ≡ Some entry → HasLost entry.inputs → flag_at marks number ≡ true

  -- exactly the keys that fail are marked
  pub record AreMarks : Type 0 where
    pub count : length marks ≡ length keys
    pub fail : MarksFail
    pub called : MarksCalled
    pub lost : MarksLost

-- what is marked stays marked
abbrev pub KeepsMarks : List Bool → List Bool → Type 0
KeepsMarks old new = (number : ℕ) → flag_at old number ≡ true → flag_at new number ≡ true
