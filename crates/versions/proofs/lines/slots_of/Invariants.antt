use Rattle.std.proofs.Common.{◌≡◌, take}
use Rattle.versions.specs.Ordered.{slots}
use Rattle.versions.proofs.lines.slots_of.Given as goal

abbrev pub invariant-loop-line : goal.invariant-loop-line
invariant-loop-line l = l.slots.items ≡ slots (take l.line-index l.lines)
