use Rattle.std.proofs.Common.{take}
use Rattle.solverkeys.specs.GraphKeys.{TakesKeys}
use Rattle.keytable.proofs.adding.inputs_of.Given as goal

abbrev pub invariant-loop-number : goal.invariant-loop-number
invariant-loop-number l = TakesKeys l.keys (take l.number-index l.edges) l.inputs.items
