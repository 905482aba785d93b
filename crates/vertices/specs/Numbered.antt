-- The edges of vertices as a table of numbers (this project's own).
use Rattle.std.specs.Prelude.{◌≡◌, ℕ, ◌<◌, List, length, slice_get, Some}
use Rattle.std.specs.List.{AllZip}
use Rattle.std.specs.declared.vec.Vec.{Vec}
use Rattle.std.specs.declared.alloc.Global.{Global}
use Rattle.vertices.specs.Edges.{targets, GoesTo}

-- exactly the numbers below a count, each at its own place
pub record AreNumbers (numbers : List ℕ) (count : ℕ) : Type 0 where
  pub counted : length numbers ≡ count
  pub placed : (place number : ℕ) → slice_get numbers place ≡ Some number → number ≡ place

-- each edge goes to a lower number
abbrev pub GoBelow : List (List (ℕ × ℕ)) → Type 0
GoBelow edges = (number other : ℕ) → GoesTo edges number other → other < number

-- each row has the numbers that the edges there go to
abbrev pub HasTargets : List (List (ℕ × ℕ)) → List (Vec ℕ Global) → Type 0
HasTargets edges rows = AllZip (λ es (row : Vec ℕ Global). row.items ≡ targets es) edges rows
