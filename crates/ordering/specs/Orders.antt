-- Orders and walks in a graph, given by its vertices and by the inputs of each (this project's own).
use Rattle.std.specs.Prelude.{◌≡◌, ℕ, zero, suc, ◌≤◌, List, take, slice_get, Some}
use Rattle.std.specs.List.{Contains}

module _ (IsVertex : ℕ → Type 0) (IsInput : ℕ → ℕ → Type 0) where
  -- a vertex that isn't among those before, all of whose inputs are
  pub record IsReady (before : List ℕ) (place : ℕ) : Type 0 where
    pub vertex : IsVertex place
    pub new : Contains before place → ⊥
    pub inputs : (input : ℕ) → IsInput place input → Contains before input

  -- the lowest of the ready vertices
  pub record IsLowestReady (before : List ℕ) (place : ℕ) : Type 0 where
    pub ready : IsReady before place
    pub lowest : (other : ℕ) → IsReady before other → place ≤ other

  -- each place in the list is the lowest that was ready after those before it
  abbrev pub TakesLowest : List ℕ → Type 0
  TakesLowest places = (k place : ℕ) → slice_get places k ≡ Some place → IsLowestReady (take k places) place

  -- the vertices, each once and after its inputs, the lowest ready one first
  pub record IsOrder (places : List ℕ) : Type 0 where
    pub whole : (place : ℕ) → IsVertex place → Contains places place
    pub lowest : TakesLowest places

module _ (IsInput : ℕ → ℕ → Type 0) where
  -- a walk of this number of edges, each from a vertex to one of its inputs
  abbrev pub Walk : ℕ → ℕ → ℕ → Type 0
  Walk from to zero = from ≡ to
  Walk from to (suc n) = (input : ℕ) × IsInput from input × Walk input to n

  -- a walk of at least one edge from a vertex to itself
  abbrev pub IsCyclic : Type 0
  IsCyclic = (place : ℕ) × (n : ℕ) × Walk place place (suc n)
