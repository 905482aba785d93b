use Rattle.std.proofs.Common.{length}
use Rattle.farm.proofs.closing.abandon_all.Given as goal

-- each turn takes one
abbrev pub decreases-loop-one : goal.decreases-loop-one
decreases-loop-one l = length l.left.items
