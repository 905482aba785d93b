-- The vertices that a graph's result depends on (this project's own).
use Rattle.std.specs.Prelude.{◌≡◌, ◌⊎◌, ℕ, Bool, true, List, length}
use Rattle.std.specs.List.{Contains}
use Rattle.ordering.specs.Flags.{flag_at}
use Rattle.ordering.specs.Orders.{Walk}
use Rattle.vertices.specs.Edges.{GoesTo, targets}
use Rattle.vertices.specs.Loading.{GraphParts}

-- the vertex of the number is that of the result, or a walk from it leads there
abbrev pub IsNeeded : GraphParts → ℕ → Type 0
IsNeeded g number = (n : ℕ) × Walk (GoesTo g.edges) g.result.0 number n

-- exactly these vertices are flagged
pub record AreReached (g : GraphParts) (flags : List Bool) : Type 0 where
  pub count : length flags ≡ length g.vertices
  pub needed : (number : ℕ) → flag_at flags number ≡ true → IsNeeded g number
  pub whole : (number : ℕ) → IsNeeded g number → flag_at flags number ≡ true

-- what edges go to is flagged, and what is new of it is to be looked at
pub record Reaching (old : List Bool) (todo : List ℕ) (edges : List (ℕ × ℕ)) (new : List Bool) (more : List ℕ) : Type 0 where
  pub count : length new ≡ length old
  pub kept : (number : ℕ) → flag_at old number ≡ true → flag_at new number ≡ true
  pub flagged : (number : ℕ) → Contains (targets edges) number → flag_at new number ≡ true
  pub only : (number : ℕ) → flag_at new number ≡ true → flag_at old number ≡ true ⊎ Contains (targets edges) number
  pub listed : (number : ℕ) → flag_at new number ≡ true → flag_at old number ≡ true ⊎ Contains more number
  pub todo_kept : (number : ℕ) → Contains todo number → Contains more number
  pub todo_flagged : (number : ℕ) → Contains more number → Contains todo number ⊎ flag_at new number ≡ true

-- while vertices are looked at: those that were flagged are needed, and all that they need is flagged,
-- but for those that are still to be looked at
pub record IsReaching (g : GraphParts) (flags : List Bool) (todo : List ℕ) : Type 0 where
  pub count : length flags ≡ length g.vertices
  pub needed : (number : ℕ) → flag_at flags number ≡ true → IsNeeded g number
  pub todo_flagged : (number : ℕ) → Contains todo number → flag_at flags number ≡ true
  pub result : flag_at flags g.result.0 ≡ true
  pub closed : (number : ℕ) → flag_at flags number ≡ true → Contains todo number ⊎ ((input : ℕ) → GoesTo g.edges number input → flag_at flags input ≡ true)
