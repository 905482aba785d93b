-- Flags of vertices, and what follows along the walks from a result.
use Rattle.std.proofs.Common.{◌≡◌, ℕ, zero, suc, ◌+◌, Bool, true, List, [], ◌∷◌, refl, ap, subst, arith}
use Rattle.std.specs.List.{Contains}
use Rattle.ordering.specs.Flags.{flag_at}
use Rattle.ordering.specs.Orders.{Walk}
use Rattle.ordering.proofs.OrderLaws.{walk_join}
use Rattle.vertices.specs.Edges.{GoesTo, targets, list_at}
use Rattle.vertices.specs.Loading.{GraphParts}
use Rattle.keytable.specs.Reaching.{IsNeeded}
use Rattle.reasons.specs.Solved.{IsClosed, Takes}
use Rattle.reasons.specs.Solved.Takes.{result, input}

-- what holds of each edge holds of each vertex to which one goes
pub edge_of : (edges : List (ℕ × ℕ)) (input : ℕ) → Contains (targets edges) input → (edge : ℕ × ℕ) × Contains edges edge × (edge.0 ≡ input)
edge_of [] other (k, lt, is) = absurd (omega (arith, lt))
edge_of (edge ∷ edges) other (zero, lt, is) = (edge, (0, omega arith, refl), is)
edge_of (edge ∷ edges) other (suc k, lt, is) =
    let (found, (place, within, at), goes) = edge_of edges other (k, omega arith, is) in (found, (suc place, omega arith, at), goes)

module _ (g : GraphParts) (flags : List Bool) (closed : IsClosed g flags) where
  -- flags go down along walks
  pub flag_down : (n from to : ℕ) → flag_at flags from ≡ true → Walk (GoesTo g.edges) from to n → flag_at flags to ≡ true
  flag_down zero from to flag at = subst (λ (k : ℕ). flag_at flags k ≡ true) at flag
  flag_down (suc n) from to flag (next, goes, rest) =
      let (edge, (place, within, at), to_next) = edge_of (list_at g.edges from) next goes in
      let edge_flag : flag_at flags edge.0 ≡ true = subst (λ (e : ℕ × ℕ). flag_at flags e.0 ≡ true) at (closed from flag place edge within) in
      flag_down n next to (subst (λ (k : ℕ). flag_at flags k ≡ true) to_next edge_flag) rest

-- an edge goes to its vertex
pub target_of : (edges : List (ℕ × ℕ)) (edge : ℕ × ℕ) → Contains edges edge → Contains (targets edges) edge.0
target_of [] edge (k, lt, is) = absurd (omega (arith, lt))
target_of (e ∷ edges) edge (zero, lt, is) = (0, omega arith, ap (λ (x : ℕ × ℕ). x.0) is)
target_of (e ∷ edges) edge (suc k, lt, is) = let (place, within, at) = target_of edges edge (k, omega arith, is) in (suc place, omega arith, at)

module _ (g : GraphParts) where
  -- what a job takes an output of, it depends on
  pub takes_needed : (number index : ℕ) → Takes g number index → IsNeeded g number
  takes_needed number index (result e) = (0, ap (λ (p : ℕ × ℕ). p.0) e)
  takes_needed number index (input user (n, walk) there) =
      (n + 1, walk_join (λ (k : ℕ). ℕ) (GoesTo g.edges) n 1 g.result.0 user number walk (number, target_of (list_at g.edges user) (number, index) there, refl))

  -- it takes the outputs that the edges of such a vertex take
  pub takes_input : (number index : ℕ) (edge : ℕ × ℕ) → Takes g number index → Contains (list_at g.edges number) edge → Takes g edge.0 edge.1
  takes_input number index edge takes there = input number (takes_needed number index takes) there
