use Rattle.std.proofs.Common.{◌≡◌, drop}
use Rattle.std.specs.List.{list_any}
use Rattle.draw.specs.Lifelines.{is_in}
use Rattle.draw.proofs.lifelines.is_in_any.Given as goal

abbrev pub invariant-loop-frame : goal.invariant-loop-frame
invariant-loop-frame l = list_any (is_in l.node) (drop l.frame-index l.frames) ≡ list_any (is_in l.node) l.frames
