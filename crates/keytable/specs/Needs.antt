-- Which outputs of a key are needed (this project's own).
use Rattle.std.specs.Prelude.{◌≡◌, ℕ, List, Some, slice_get}
use Rattle.std.specs.List.{Contains}
use Rattle.names.specs.declared.digest.Key.{Key}
use Rattle.keytable.specs.declared.entry.Entry.{Entry}
use Rattle.keytable.specs.declared.users.Link.{Link}

-- an input of a submitted key, or the result of a job, names this output of the key
pub data NeedsOutput (jobs : List (Key × ℕ)) (keys : List Entry) (key : Key) (index : ℕ) : Type 0 where
  by_input : (number : ℕ) (entry : Entry) → slice_get keys number ≡ Some entry → Contains entry.inputs (key, index) → NeedsOutput jobs keys key index
  by_job : Contains jobs (key, index) → NeedsOutput jobs keys key index

-- a link names this output of the key of a number
pub record LinksOutput (links : List Link) (source index : ℕ) : Type 0 where
  pub place : ℕ
  pub link : Link
  pub at : slice_get links place ≡ Some link
  pub from : link.source ≡ source
  pub named : link.index ≡ index
