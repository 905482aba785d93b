-- The keys that a graph adds to those that were submitted (this project's own).
use Rattle.std.specs.Prelude.{◌≡◌, ℕ, ◌<◌, List, [], ◌∷◌, ◌++◌, Some, slice_get}
use Rattle.std.specs.List.{AllZip, Contains}
use Rattle.std.specs.List.Sorted.{IsStrictlyIncreasing}
use Rattle.names.specs.declared.digest.Key.{Key}
use Rattle.vertices.specs.Edges.{list_at}
use Rattle.vertices.specs.Loading.{GraphParts}
use Rattle.solverkeys.specs.GraphKeys.{TakesKeys}
use Rattle.keytable.specs.declared.entry.Entry.{Entry}
use Rattle.keytable.specs.declared.entry.Progress.TheVariants.{Waiting}
use Rattle.keytable.specs.declared.table.Table.{Table}
use Rattle.keytable.specs.Reaching.{IsNeeded}

-- the one list begins with the other
abbrev pub BeginsWith : {X : Type 0} → List X → List X → Type 0
BeginsWith {X} old new = (rest : List X) × (new ≡ old ++ rest)

-- the new table begins with the old one
pub record IsFront (old new : Table) : Type 0 where
  pub keys : BeginsWith old.numbers.keys new.numbers.keys
  pub entries : BeginsWith old.entries.items new.entries.items

module _ (g : GraphParts) (keys : List Key) where
  -- the entry of a vertex's key: its inputs are those that the vertex's edges take
  pub record IsEntryOf (number : ℕ) (entry : Entry) : Type 0 where
    pub key : slice_get keys number ≡ Some entry.key
    pub inputs : TakesKeys keys (list_at g.edges number) entry.inputs
    pub waiting : entry.progress ≡ Waiting

  -- one of the entries has the key of the vertex
  pub record IsKnown (entries : List Entry) (number : ℕ) : Type 0 where
    pub place : ℕ
    pub entry : Entry
    pub at : slice_get entries place ≡ Some entry
    pub key : slice_get keys number ≡ Some entry.key

  -- the result depends on the vertex, and its key is neither an entry's nor that of a lower one on which the result depends
  pub record IsNew (old : List Entry) (number : ℕ) : Type 0 where
    pub needed : IsNeeded g number
    pub unknown : IsKnown old number → ⊥
    pub first : (lower : ℕ) → lower < number → IsNeeded g lower → slice_get keys lower ≡ slice_get keys number → ⊥

  -- the keys of the new vertices come last, in order
  pub record AreAdded (old new : List Entry) : Type 0 where
    pub numbers : List ℕ
    pub added : List Entry
    pub rising : IsStrictlyIncreasing numbers
    pub only : (number : ℕ) → Contains numbers number → IsNew old number
    pub whole : (number : ℕ) → IsNew old number → Contains numbers number
    pub entries : AllZip IsEntryOf numbers added
    pub new_is : new ≡ old ++ added

  -- the key of a vertex is added where no entry has it
  pub data AddsKey (number : ℕ) (old new : List Entry) : Type 0 where
    known : IsKnown old number → new ≡ old → AddsKey number old new
    adds : (entry : Entry) → IsEntryOf number entry → (IsKnown old number → ⊥) → new ≡ old ++ entry ∷ [] → AddsKey number old new

  -- while the vertices below a count were looked at
  pub record IsAdding (old : List Entry) (count : ℕ) (new : List Entry) : Type 0 where
    pub numbers : List ℕ
    pub added : List Entry
    pub rising : IsStrictlyIncreasing numbers
    pub below : (number : ℕ) → Contains numbers number → number < count
    pub only : (number : ℕ) → Contains numbers number → IsNew old number
    pub whole : (number : ℕ) → number < count → IsNew old number → Contains numbers number
    pub covered : (number : ℕ) → number < count → IsNeeded g number → IsKnown new number
    pub entries : AllZip IsEntryOf numbers added
    pub new_is : new ≡ old ++ added
