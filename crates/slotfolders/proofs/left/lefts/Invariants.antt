use Rattle.std.proofs.Common.{◌≡◌, ◌++◌, drop}
use Rattle.slotfolders.specs.Seen.{folder_seen}
use Rattle.slotfolders.specs.Left.{lefts}
use Rattle.slotfolders.proofs.left.lefts.Given as goal

-- all is what is there so far, and what the others leave
abbrev pub invariant-loop-slot : goal.invariant-loop-slot
invariant-loop-slot l = lefts (folder_seen l.seen.leased l.seen.shared) l.changed l.slots ≡ l.lefts.items ++ lefts (folder_seen l.seen.leased l.seen.shared) l.changed (drop l.slot-index l.slots)
