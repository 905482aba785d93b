use Rattle.world.specs.Tables.{AreFirstOf}
use Rattle.world.proofs.nodes.first_cores.Given as goal

abbrev pub invariant-loop-number : goal.invariant-loop-number
invariant-loop-number l = AreFirstOf l.count l.number l.cores.items
