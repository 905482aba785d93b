use Rattle.std.proofs.Common.{◌≡◌, ◌++◌}
use Rattle.std.specs.Prelude.{map}
use Rattle.farm.specs.Ends.{failed_from, failed_in}
use Rattle.farm.proofs.solved.causes_of.Given as goal

-- the failed jobs so far are named, and the others are among the rest
abbrev pub invariant-loop-place : goal.invariant-loop-place
invariant-loop-place g l = map (λ each. each.place) l.causes.items ++ failed_from l.place l.rest ≡ failed_in l.answers
