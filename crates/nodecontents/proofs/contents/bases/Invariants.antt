use Rattle.std.proofs.Common.{◌≡◌, ◌++◌, drop, map}
use Rattle.nodecontents.specs.Stored.{base_of}
use Rattle.nodecontents.proofs.contents.bases.Given as goal

abbrev pub invariant-loop-slot : goal.invariant-loop-slot
invariant-loop-slot l = l.bases.items ++ map base_of (drop l.slot-index l.slots) ≡ map base_of l.slots
