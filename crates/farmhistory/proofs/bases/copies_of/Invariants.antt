use Rattle.std.proofs.Common.{◌≡◌, map, take}
use Rattle.names.specs.Contents.{content_digest}
use Rattle.farmhistory.proofs.bases.copies_of.Given as goal

abbrev pub invariant-loop-slot : goal.invariant-loop-slot
invariant-loop-slot l = map content_digest l.bases.items ≡ map (λ u. u.digest) (take l.slot-index l.slots)
