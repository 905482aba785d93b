-- The list of the ready keys, in the order in which they are handed out (this project's own).
use Rattle.std.specs.Prelude.{◌≡◌, ◌<◌, ◌≤◌, ℕ, List, Some, length, drop, take, slice_get, slice_index_or}
use Rattle.std.specs.List.{AllZip, Contains, IsDistinct}
use Rattle.std.specs.List.Sorted.{IsStrictlyIncreasing}
use Rattle.std.specs.Vec.{vec_capacity}
use Rattle.std.specs.Prelude.{nat_eq}
use Rattle.names.specs.declared.digest.Digest.{Digest}
use Rattle.names.specs.declared.digest.Key.{Key}
use Rattle.keytable.specs.declared.entry.Entry.{Entry}
use Rattle.keytable.specs.declared.entry.Progress.TheVariants.{Waiting}
use Rattle.jobs.specs.declared.ready_list.ReadyList.{ReadyList}
use Rattle.keytable.specs.Failing.{AreThere, HasOutput, IsReady}

module _ (keys : List Entry) where
  -- the key of this number is ready
  pub record IsReadyAt (number : ℕ) : Type 0 where
    pub entry : Entry
    pub at : slice_get keys number ≡ Some entry
    pub ready : IsReady keys entry

  -- the key of this number was handed out
  pub record IsHandedAt (number : ℕ) : Type 0 where
    pub entry : Entry
    pub at : slice_get keys number ≡ Some entry
    pub handed : entry.progress ≡ Waiting → ⊥

  -- the key of this number
  pub record IsKeyAt (number : ℕ) (key : Key) : Type 0 where
    pub entry : Entry
    pub at : slice_get keys number ≡ Some entry
    pub named : entry.key ≡ key

  -- exactly the ready keys, by order of submission and then by place
  pub record AreReadyKeys (ready : List Key) : Type 0 where
    pub numbers : List ℕ
    pub rising : IsStrictlyIncreasing numbers
    pub only : (number : ℕ) → Contains numbers number → IsReadyAt number
    pub whole : (number : ℕ) → IsReadyAt number → Contains numbers number
    pub named : AllZip IsKeyAt numbers ready

  -- each input before a place names an output that is there
  abbrev pub AreThereBefore : ℕ → List (Key × ℕ) → Type 0
  AreThereBefore place inputs = (lower : ℕ) (input : Key × ℕ) → lower < place → slice_get inputs lower ≡ Some input → (digest : Digest) × HasOutput keys input digest

  -- each key has a cursor, and its inputs before that are there
  pub record AreCursors (cursors : List ℕ) : Type 0 where
    pub count : length cursors ≡ length keys
    pub there : (number : ℕ) (entry : Entry) → slice_get keys number ≡ Some entry → AreThereBefore (slice_index_or cursors number 0) entry.inputs

  -- the inputs of what was handed out are there
  abbrev pub AreHandedRight : Type 0
  AreHandedRight = (number : ℕ) → (handed : IsHandedAt number) → AreThere keys handed.entry.inputs

-- the numbers of the keys that are still listed
abbrev pub listed : ReadyList → List ℕ
listed l = drop l.taken l.numbers.items

-- those that were taken
abbrev pub taken : ReadyList → List ℕ
taken l = take l.taken l.numbers.items

-- the list holds what was handed out, and then ready keys by rising number
pub record IsList (keys : List Entry) (l : ReadyList) : Type 0 where
  pub within : l.taken ≤ length l.numbers.items
  pub handed : (number : ℕ) → Contains (taken l) number → IsHandedAt keys number
  pub ready : (number : ℕ) → Contains (listed l) number → IsReadyAt keys number
  pub rising : IsStrictlyIncreasing (listed l)
  pub apart : IsDistinct nat_eq l.numbers.items
  pub named : AllZip (IsKeyAt keys) l.numbers.items l.keys.items

-- each ready key is listed
abbrev pub ListsAll : List Entry → ReadyList → Type 0
ListsAll keys l = (number : ℕ) → IsReadyAt keys number → Contains (listed l) number

-- there is room for this number of keys
pub record HasRoom (count : ℕ) (l : ReadyList) : Type 0 where
  pub numbers : count ≤ vec_capacity l.numbers
  pub keys : count ≤ vec_capacity l.keys

-- nothing is listed that wasn't, and no room is lost
pub record IsSameList (old new : ReadyList) : Type 0 where
  pub taken : new.taken ≡ old.taken
  pub numbers : new.numbers.items ≡ old.numbers.items
  pub keys : new.keys.items ≡ old.keys.items
  pub room : (count : ℕ) → HasRoom count old → HasRoom count new
