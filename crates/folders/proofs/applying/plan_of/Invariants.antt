use Rattle.std.proofs.Common.{◌≡◌, take}
use Rattle.folders.specs.Edits.{lent}
use Rattle.folders.proofs.applying.plan_of.Given as goal

abbrev pub invariant-loop-path : goal.invariant-loop-path
invariant-loop-path l = lent l.plan ≡ take l.path-index l.files
