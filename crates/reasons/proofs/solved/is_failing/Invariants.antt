use Rattle.reasons.specs.Solved.{Takes}
use Rattle.reasons.proofs.solved.is_failing.Given as goal

-- the job takes the output at which it is looked
abbrev pub invariant-loop : goal.invariant-loop
invariant-loop l = Takes l.keyed.graph l.number l.index
