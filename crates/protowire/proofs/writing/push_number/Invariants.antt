use Rattle.protowire.proofs.WritingLoop.{Written}
use Rattle.protowire.proofs.writing.push_number.Given as goal

abbrev pub invariant-loop-rest : goal.invariant-loop-rest
invariant-loop-rest l = Written l.fn.out.items l.out.items l.number l.rest

abbrev pub decreases-loop-rest : goal.decreases-loop-rest
decreases-loop-rest l = l.rest
