use Rattle.std.proofs.Common.{◌<◌, ℕ}
use Rattle.reasons.specs.Solved.{IsClosedAt}
use Rattle.reasons.proofs.solved.is_closed.Given as goal

-- the inputs of the flagged vertices so far are flagged
abbrev pub invariant-loop-number : goal.invariant-loop-number
invariant-loop-number l = (number : ℕ) → number < l.number → IsClosedAt l.graph l.flags number
