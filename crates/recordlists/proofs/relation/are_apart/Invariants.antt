use Rattle.std.proofs.Common.{◌≡◌, drop}
use Rattle.recordlists.specs.Relations.{no_two, clash}
use Rattle.recordlists.proofs.relation.are_apart.Given as goal

abbrev pub invariant-loop-i : goal.invariant-loop-i
invariant-loop-i l = no_two clash (drop l.i l.leases) ≡ no_two clash l.leases
