-- A graph with its keys, and the first vertex of each key (this project's own).
use Rattle.std.specs.Prelude.{◌≡◌, ◌<◌, ℕ, Bool, List, Option, Some, None, slice_get}
use Rattle.names.specs.declared.digest.Key.{Key}
use Rattle.names.specs.Digests.{digest_eq}
use Rattle.vertices.specs.Loading.{GraphParts}

-- a graph, and a key for each of its vertices, by its number
pub record KeyedParts : Type 0 where
  pub graph : GraphParts
  pub keys : List Key

-- a graph with these keys
abbrev pub keyed : GraphParts → List Key → KeyedParts
keyed g keys = record { graph = g; keys = keys }

-- the same bytes
abbrev pub key_eq : Key → Key → Bool
key_eq a b = digest_eq a.0 b.0

-- the key stands at this place, and at none before
pub record IsFirst (keys : List Key) (key : Key) (place : ℕ) : Type 0 where
  pub there : slice_get keys place ≡ Some key
  pub earlier : (other : ℕ) → other < place → slice_get keys other ≡ Some key → ⊥

-- the first place of each key that stands below `count`
pub record AreFirsts (keys : List Key) (count : ℕ) (first : Key → Option ℕ) : Type 0 where
  pub found : (key : Key) (place : ℕ) → first key ≡ Some place → (place < count) × IsFirst keys key place
  pub missing : (key : Key) (place : ℕ) → place < count → slice_get keys place ≡ Some key → first key ≡ None → ⊥
