-- Why a job has no output (this project's own).
use Rattle.std.specs.Prelude.{◌≡◌, ◌<◌, ℕ, List, Option, Some, None, slice_get}
use Rattle.std.specs.List.{Contains}
use Rattle.names.specs.declared.digest.Key.{Key}
use Rattle.keytable.specs.declared.cause.Cause.{Cause}
use Rattle.keytable.specs.declared.cause.Cause.TheVariants as causes
use Rattle.keytable.specs.declared.entry.Entry.{Entry}
use Rattle.keytable.specs.declared.entry.Fault.{Fault}
use Rattle.keytable.specs.declared.entry.Progress.TheVariants.{Failed}
use Rattle.keytable.specs.Failing.{IsSubmitted, LacksOutput, Fails}

module _ (keys : List Entry) where
  -- the key is the other, or the key of one of its inputs depends on the other
  pub data DependsOn : Key → Key → Type 0 where
    itself : (key : Key) → DependsOn key key
    by_input : (key other : Key) (entry : Entry) (input : Key × ℕ) → IsSubmitted keys key entry → Contains entry.inputs input → DependsOn input.0 other → DependsOn key other

  -- the key of the entry was called failed, or that of one of its inputs is done without the output that the input names
  pub data FailsItself (entry : Entry) : Type 0 where
    is_called : (fault : Fault) → entry.progress ≡ Failed fault → FailsItself entry
    has_lacking : (input : Key × ℕ) → Contains entry.inputs input → LacksOutput keys input → FailsItself entry

  -- the first of these inputs whose key is done without the output that the input names
  pub record IsFirstLacking (inputs : List (Key × ℕ)) (input : Key × ℕ) : Type 0 where
    pub place : ℕ
    pub at : slice_get inputs place ≡ Some input
    pub lacks : LacksOutput keys input
    pub first : (lower : ℕ) (other : Key × ℕ) → lower < place → slice_get inputs lower ≡ Some other → LacksOutput keys other → ⊥

  -- why it fails itself: that it was called failed comes first
  pub data IsOwnCause (entry : Entry) (cause : Cause) : Type 0 where
    called : (fault : Fault) → entry.progress ≡ Failed fault → cause ≡ causes.Failed entry.key fault → IsOwnCause entry cause
    lacks : (input : Key × ℕ) → ((fault : Fault) → entry.progress ≡ Failed fault → ⊥) → IsFirstLacking entry.inputs input → cause ≡ causes.NoOutput input.0 input.1 → IsOwnCause entry cause

  -- of the keys that a key depends on, why the first submitted one that fails itself does
  pub record IsFirstCause (key : Key) (cause : Cause) : Type 0 where
    pub number : ℕ
    pub entry : Entry
    pub at : slice_get keys number ≡ Some entry
    pub needed : DependsOn key entry.key
    pub own : IsOwnCause entry cause
    pub first : (lower : ℕ) (other : Entry) → lower < number → slice_get keys lower ≡ Some other → DependsOn key other.key → FailsItself other → ⊥

  -- why the job with this result has no output, if its key fails or is done without that output
  pub data IsCause (wanted : Key × ℕ) (given : Option Cause) : Type 0 where
    fails : (cause : Cause) → Fails keys wanted.0 → IsFirstCause wanted.0 cause → given ≡ Some cause → IsCause wanted given
    result_lacks : LacksOutput keys wanted → (Fails keys wanted.0 → ⊥) → given ≡ Some (causes.NoOutput wanted.0 wanted.1) → IsCause wanted given
    no_cause : (Fails keys wanted.0 → ⊥) → (LacksOutput keys wanted → ⊥) → given ≡ None → IsCause wanted given
