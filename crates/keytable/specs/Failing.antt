-- Which of the submitted keys fail, and which can be solved (this project's own).
use Rattle.std.specs.Prelude.{◌≡◌, ℕ, List, Some, None, slice_get}
use Rattle.std.specs.List.{Contains}
use Rattle.names.specs.declared.digest.Key.{Key}
use Rattle.names.specs.declared.digest.Digest.{Digest}
use Rattle.keytable.specs.declared.entry.Fault.{Fault}
use Rattle.keytable.specs.declared.entry.Entry.{Entry}
use Rattle.keytable.specs.declared.entry.Progress.TheVariants.{Waiting, Done, Failed}

module _ (keys : List Entry) where
  -- the key was submitted, and has this progress
  pub record IsSubmitted (key : Key) (entry : Entry) : Type 0 where
    pub number : ℕ
    pub at : slice_get keys number ≡ Some entry
    pub named : entry.key ≡ key

  -- the key is done with these outputs
  pub record IsDone (key : Key) (outputs : List Digest) : Type 0 where
    pub entry : Entry
    pub submitted : IsSubmitted key entry
    pub done : entry.progress ≡ Done outputs

  -- an input's key is done with the output that the input names
  pub record HasOutput (input : Key × ℕ) (digest : Digest) : Type 0 where
    pub outputs : List Digest
    pub done : IsDone input.0 outputs
    pub there : slice_get outputs input.1 ≡ Some digest

  -- an input's key is done without the output that the input names
  pub record LacksOutput (input : Key × ℕ) : Type 0 where
    pub outputs : List Digest
    pub done : IsDone input.0 outputs
    pub missing : slice_get outputs input.1 ≡ None

  -- the least set where a key fails if it was called failed, an input's key fails, or an input's
  -- key is done without the named output
  pub data Fails : Key → Type 0 where
    called : (key : Key) (entry : Entry) (fault : Fault) → IsSubmitted key entry → entry.progress ≡ Failed fault → Fails key
    input_fails : (key : Key) (entry : Entry) (input : Key × ℕ) → IsSubmitted key entry → Contains entry.inputs input → Fails input.0 → Fails key
    input_lacks : (key : Key) (entry : Entry) (input : Key × ℕ) → IsSubmitted key entry → Contains entry.inputs input → LacksOutput input → Fails key

  -- each of these inputs names an output that is there
  abbrev pub AreThere : List (Key × ℕ) → Type 0
  AreThere inputs = (input : Key × ℕ) → Contains inputs input → (digest : Digest) × HasOutput input digest

  -- an entry that is neither done, nor failing, nor being solved, and each of whose inputs names an output that is there
  pub record IsReady (entry : Entry) : Type 0 where
    pub waiting : entry.progress ≡ Waiting
    pub not_failing : Fails entry.key → ⊥
    pub inputs : AreThere entry.inputs
