use Rattle.std.proofs.Common.{◌≡◌, drop}
use Rattle.draw.specs.Marks.{end_in}
use Rattle.draw.proofs.marking.end_in.Given as goal

abbrev pub invariant-loop-frame : goal.invariant-loop-frame
invariant-loop-frame l = end_in l.ticket (drop l.frame-index l.frames) ≡ end_in l.ticket l.frames
