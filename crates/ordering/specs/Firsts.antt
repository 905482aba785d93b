-- The vertices of a list of digests: of equal digests the first stands (this project's own).
use Rattle.std.specs.Prelude.{◌≡◌, ℕ, ◌<◌, List, Option, Some, None, slice_get}
use Rattle.std.specs.HashMap.{get}
use Rattle.std.specs.List.Sorted.{IsStrictlyIncreasing}
use Rattle.names.specs.declared.digest.Digest.{Digest}
use Rattle.names.specs.Digests.{digest_eq}
use Rattle.ordering.specs.declared.table.Table.{Table}

-- the digest stands at this place, and at none before
pub record IsFirstAt (digests : List Digest) (place : ℕ) (digest : Digest) : Type 0 where
  pub there : slice_get digests place ≡ Some digest
  pub earlier : (other : ℕ) → other < place → slice_get digests other ≡ Some digest → ⊥

-- the number of the vertex with this digest
abbrev pub number_in : Table → Digest → Option ℕ
number_in table digest = get digest_eq table.numbers digest

-- the places of its vertices, by number
abbrev pub places_in : Table → List ℕ
places_in table = table.places.items

-- the table has the first place of each digest, by rising place, and finds its number by its digest
pub record IsTable (digests : List Digest) (table : Table) : Type 0 where
  pub found : (digest : Digest) (number : ℕ) → number_in table digest ≡ Some number
      → (place : ℕ) × (slice_get (places_in table) number ≡ Some place) × IsFirstAt digests place digest
  pub missing : (digest : Digest) (place : ℕ) → number_in table digest ≡ None → slice_get digests place ≡ Some digest → ⊥
  pub vertex : (number place : ℕ) → slice_get (places_in table) number ≡ Some place
      → (digest : Digest) × IsFirstAt digests place digest × (number_in table digest ≡ Some number)
  pub rising : IsStrictlyIncreasing (places_in table)
