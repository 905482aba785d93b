use Rattle.vertices.specs.Numbered.{AreNumbers}
use Rattle.vertices.proofs.building.numbers.Given as goal

abbrev pub invariant-loop-number : goal.invariant-loop-number
invariant-loop-number l = AreNumbers l.numbers.items l.number
