-- A list of digests, each with the digests of its inputs, as a graph (this project's own).
use Rattle.std.specs.Prelude.{◌≡◌, ℕ, zero, suc, ◌<◌, List, [], ◌∷◌, map, length, slice_get, Some}
use Rattle.std.specs.List.{Contains}
use Rattle.std.specs.declared.vec.Vec.{Vec}
use Rattle.std.specs.declared.alloc.Global.{Global}
use Rattle.names.specs.declared.digest.Digest.{Digest}
use Rattle.ordering.specs.Firsts.{IsFirstAt}
use Rattle.ordering.specs.Rows.{row_at}

-- an entry: a digest, and the digests of its inputs
abbrev pub Entry : Type 0
Entry = Digest × Vec Digest Global

-- the digests of the entries
abbrev pub digests_of : List Entry → List Digest
digests_of entries = map (λ (entry : Entry). entry.0) entries

-- the digests of the inputs of the entry at a place
abbrev pub named_at : List Entry → ℕ → List Digest
named_at [] place = []
named_at (entry ∷ entries) zero = entry.1.items
named_at (entry ∷ entries) (suc place) = named_at entries place

-- the first entry with its digest stands at this place
pub record IsVertex (entries : List Entry) (place : ℕ) : Type 0 where
  pub digest : Digest
  pub first : IsFirstAt (digests_of entries) place digest

-- the vertex at a place names the digest of the vertex at another
pub record NamesInput (entries : List Entry) (place input : ℕ) : Type 0 where
  pub vertex : IsVertex entries place
  pub digest : Digest
  pub named : Contains (named_at entries place) digest
  pub first : IsFirstAt (digests_of entries) input digest

-- the vertex at a place names a digest that no entry has
pub record LacksInput (entries : List Entry) (place : ℕ) : Type 0 where
  pub vertex : IsVertex entries place
  pub digest : Digest
  pub named : Contains (named_at entries place) digest
  pub missing : (other : ℕ) → slice_get (digests_of entries) other ≡ Some digest → ⊥

-- these are the first places of the digests, in order
pub record AreResolved (digests inputs : List Digest) (row : List ℕ) : Type 0 where
  pub count : length row ≡ length inputs
  pub each : (k : ℕ) (digest : Digest) → slice_get inputs k ≡ Some digest → (place : ℕ) × (slice_get row k ≡ Some place) × IsFirstAt digests place digest

-- one of the inputs is none of the digests
pub record HasUnknown (digests inputs : List Digest) : Type 0 where
  pub digest : Digest
  pub named : Contains inputs digest
  pub missing : (place : ℕ) → slice_get digests place ≡ Some digest → ⊥

-- the row of a place has exactly the inputs that it names
pub record IsRowOf (entries : List Entry) (place : ℕ) (row : List ℕ) : Type 0 where
  pub sound : (input : ℕ) → Contains row input → NamesInput entries place input
  pub whole : (input : ℕ) → NamesInput entries place input → Contains row input

-- so have the rows of the first `count` places, none of which lacks an input
pub record AreRowsOf (entries : List Entry) (count : ℕ) (rows : List (Vec ℕ Global)) : Type 0 where
  pub length_is : length rows ≡ count
  pub each : (place : ℕ) → place < count → IsRowOf entries place (row_at rows place)
  pub none_lacks : (place : ℕ) → place < count → LacksInput entries place → ⊥
