-- A graph as a table: for each place the places of its inputs (this project's own).
use Rattle.std.specs.Prelude.{ℕ, zero, suc, ◌<◌, List, [], ◌∷◌, length}
use Rattle.std.specs.List.{Contains}
use Rattle.std.specs.declared.vec.Vec.{Vec}
use Rattle.std.specs.declared.alloc.Global.{Global}
use Rattle.ordering.specs.Orders as orders

-- what stands in a table at a place
abbrev pub row_at : {X : Type 0} → List (Vec X Global) → ℕ → List X
row_at [] place = []
row_at (row ∷ rows) zero = row.items
row_at (row ∷ rows) (suc place) = row_at rows place

-- the place has this input
abbrev pub HasInput : List (Vec ℕ Global) → ℕ → ℕ → Type 0
HasInput rows place input = Contains (row_at rows place) input

-- the vertices are places of the table, and so are their inputs
pub record AreRows (vertices : List ℕ) (rows : List (Vec ℕ Global)) : Type 0 where
  pub within : (place : ℕ) → Contains vertices place → place < length rows
  pub inputs : (place input : ℕ) → HasInput rows place input → Contains vertices input

-- each input is a place of the table
abbrev pub HasInputsWithin : List (Vec ℕ Global) → Type 0
HasInputsWithin rows = (place input : ℕ) → HasInput rows place input → input < length rows

-- the order of the vertices
abbrev pub IsRowOrder : List ℕ → List (Vec ℕ Global) → List ℕ → Type 0
IsRowOrder vertices rows = orders.IsOrder (Contains vertices) (HasInput rows)

-- a walk from a vertex to itself
abbrev pub HasRowCycle : List (Vec ℕ Global) → Type 0
HasRowCycle rows = orders.IsCyclic (HasInput rows)
