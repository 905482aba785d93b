use Rattle.ordering.specs.Flags.{ArePlaced}
use Rattle.ordering.proofs.ordering.first_open.Given as goal

-- the inputs before this one are placed
abbrev pub invariant-loop-next : goal.invariant-loop-next
invariant-loop-next l = ArePlaced l.inputs l.placed l.from l.next
