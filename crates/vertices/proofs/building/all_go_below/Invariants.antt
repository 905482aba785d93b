use Rattle.std.proofs.Common.{ℕ, ◌<◌}
use Rattle.vertices.specs.Edges.{GoesTo}
use Rattle.vertices.proofs.building.all_go_below.Given as goal

abbrev pub invariant-loop-number : goal.invariant-loop-number
invariant-loop-number l = (number : ℕ) → number < l.number → (other : ℕ) → GoesTo l.edges number other → other < number
