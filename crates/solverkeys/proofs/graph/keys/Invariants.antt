use Rattle.std.proofs.Common.{◌≡◌, ℕ, take, length}
use Rattle.std.specs.List.{Contains}
use Rattle.solverkeys.specs.GraphKeys.{HasKey}
use Rattle.solverkeys.proofs.graph.keys.Given as goal

-- the vertices so far have their keys
abbrev pub invariant-loop-number : goal.invariant-loop-number
invariant-loop-number l = record {
  count : length l.keys.items ≡ length l.graph.vertices;
  known : (number : ℕ) → Contains (take l.number-index l.number-items) number → HasKey l.graph l.keys.items number;
}
