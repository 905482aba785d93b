use Rattle.std.proofs.Common.{length}
use Rattle.slotfolders.proofs.left.+differ.Given as goal

abbrev pub decreases-differ : goal.decreases-differ
decreases-differ l = length l.edits.now
