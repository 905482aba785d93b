use Rattle.std.proofs.Common.{◌≡◌, map, take}
use Rattle.farmhistory.specs.Lines.{version_of}
use Rattle.farmhistory.proofs.lines.first_versions.Given as goal

abbrev pub invariant-loop-left : goal.invariant-loop-left
invariant-loop-left l = l.versions.items ≡ map version_of (take l.left-index l.lefts)
