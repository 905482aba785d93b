use Rattle.std.proofs.Common.{length}
use Rattle.solving.proofs.run.give_up_all.Given as goal

-- each turn takes one
abbrev pub decreases-loop-running : goal.decreases-loop-running
decreases-loop-running l = length l.left.folders
