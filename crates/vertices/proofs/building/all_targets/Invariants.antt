use Rattle.std.proofs.Common.{take}
use Rattle.vertices.specs.Numbered.{HasTargets}
use Rattle.vertices.proofs.building.all_targets.Given as goal

abbrev pub invariant-loop-some : goal.invariant-loop-some
invariant-loop-some l = HasTargets (take l.some-index l.edges) l.rows.items
