use Rattle.std.proofs.Common.{◌≡◌, ◌++◌, map, take, drop}
use Rattle.world.specs.Shown.{shown}
use Rattle.farmhistory.specs.Lines.{numbered}
use Rattle.farmhistory.proofs.lines.number_all.Given as goal

abbrev pub invariant-loop-version : goal.invariant-loop-version
invariant-loop-version l = l.version-items ≡ map (numbered (shown l.world) l.ticket) (take l.version-index l.fn.versions.items) ++ drop l.version-index l.fn.versions.items
