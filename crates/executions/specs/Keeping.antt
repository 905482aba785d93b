-- What is kept of the SHARED folders that are open.
use Rattle.std.specs.Prelude.{⊤, ◌≡◌, ℕ, ◌≤◌, List, length, Some, slice_get}
use Rattle.slotfolders.specs.declared.batch.Batch.{Batch}
use Rattle.executions.specs.declared.live_shared.Open.{Open}
use Rattle.executions.specs.declared.refusal.SharedRefusal.{SharedRefusal}
use Rattle.executions.specs.declared.refusal.SharedRefusal.TheVariants.{Twice, TooLarge, OutOfMemory, NotOpen, BadContents}
use Rattle.executions.specs.Live.{Opened, files_of}

-- a contract sees no files: they are those that the batches make
abbrev pub opened : Open → Opened
opened o = record { folder = o.folder; running = o.running; since = o.since }

-- each ticket changed a folder once at most
abbrev pub AreOnce : List Batch → Type 0
AreOnce batches = (j k : ℕ) (one other : Batch) → slice_get batches j ≡ Some one → slice_get batches k ≡ Some other
    → one.ticket ≡ other.ticket → one.folder ≡ other.folder → j ≡ k

-- the files are as the batches made them
pub record IsAsMade (batches : List Batch) (o : Open) : Type 0 where
  pub files : o.files ≡ files_of batches (opened o)
  pub since : o.since ≤ length batches

pub record IsKept (batches : List Batch) (folders : List Open) : Type 0 where
  pub each : (place : ℕ) (o : Open) → slice_get folders place ≡ Some o → IsAsMade batches o
  -- no folder is open twice
  pub apart : (j k : ℕ) (one other : Open) → slice_get folders j ≡ Some one → slice_get folders k ≡ Some other
      → one.folder ≡ other.folder → j ≡ k
  pub once : AreOnce batches

-- why no folder was read
abbrev pub IsFirstRefusal : SharedRefusal → Type 0
IsFirstRefusal BadContents = ⊤
IsFirstRefusal OutOfMemory = ⊤
IsFirstRefusal Twice = ⊥
IsFirstRefusal TooLarge = ⊥
IsFirstRefusal NotOpen = ⊥
