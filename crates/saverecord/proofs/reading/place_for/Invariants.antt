use Rattle.std.proofs.Common.{◌≡◌, ◌+◌, drop}
use Rattle.saverecord.specs.Records.{place_for}
use Rattle.saverecord.proofs.reading.place_for.Given as goal

abbrev pub invariant-loop-i : goal.invariant-loop-i
invariant-loop-i l = l.i + place_for l.node (drop l.i l.lives) ≡ place_for l.node l.lives
