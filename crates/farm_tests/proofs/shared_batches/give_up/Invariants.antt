use Rattle.std.proofs.Common.{length}
use Rattle.farm_tests.proofs.shared_batches.give_up.Given as goal

-- each turn takes one
abbrev pub decreases-loop-running : goal.decreases-loop-running
decreases-loop-running l = length l.left.folders
