-- Marks that spread from a key to its users (this project's own).
use Rattle.std.specs.Prelude.{◌≡◌, ◌⊎◌, ℕ, Bool, true, List, Some, None, length, slice_get}
use Rattle.std.specs.List.{Contains}
use Rattle.names.specs.declared.digest.Digest.{Digest}
use Rattle.ordering.specs.Flags.{flag_at}
use Rattle.keytable.specs.declared.users.Link.{Link}
use Rattle.keytable.specs.Marks.{KeepsMarks}

-- the key was marked, or it takes an output of a key that gets a mark
pub data GetsMark (links : List Link) (marks : List Bool) : ℕ → Type 0 where
  marked : (number : ℕ) → flag_at marks number ≡ true → GetsMark links marks number
  takes : (number place : ℕ) (link : Link) → slice_get links place ≡ Some link → link.user ≡ number → GetsMark links marks link.source → GetsMark links marks number

-- the key is this one, or takes an output of a key that follows it
pub data Follows (links : List Link) (source : ℕ) : ℕ → Type 0 where
  is_source : (number : ℕ) → number ≡ source → Follows links source number
  takes_from : (number place : ℕ) (link : Link) → slice_get links place ≡ Some link → link.user ≡ number → Follows links source link.source → Follows links source number

-- the key takes an output of this source that isn't among these
pub record Lacks (links : List Link) (source : ℕ) (outputs : List Digest) (user : ℕ) : Type 0 where
  pub place : ℕ
  pub link : Link
  pub at : slice_get links place ≡ Some link
  pub from : link.source ≡ source
  pub takes : link.user ≡ user
  pub missing : slice_get outputs link.index ≡ None

-- there are more marks, and the users of what is new of them are to be looked at
pub record Marking (old : List Bool) (todo : List ℕ) (new : List Bool) (more : List ℕ) : Type 0 where
  pub count : length new ≡ length old
  pub kept : KeepsMarks old new
  pub listed : (number : ℕ) → flag_at new number ≡ true → flag_at old number ≡ true ⊎ Contains more number
  pub todo_kept : (number : ℕ) → Contains todo number → Contains more number
  pub todo_marked : (number : ℕ) → Contains more number → Contains todo number ⊎ flag_at new number ≡ true

-- each user of a marked key is marked, where the marked key isn't to be looked at
abbrev pub AreSpread : List Link → List Bool → List ℕ → Type 0
AreSpread links marks todo = (place : ℕ) (link : Link) → slice_get links place ≡ Some link → flag_at marks link.source ≡ true → flag_at marks link.user ≡ true ⊎ Contains todo link.source
