use Rattle.std.proofs.Common.{◌≡◌, ◌++◌, drop}
use Rattle.std.specs.List.{flat_map}
use Rattle.std.specs.String.{string_bytes}
use Rattle.draw.specs.Shapes.{mark_text}
use Rattle.draw.proofs.page.push_marks.Given as goal

abbrev pub invariant-loop-mark : goal.invariant-loop-mark
invariant-loop-mark l = string_bytes l.text ++ flat_map (mark_text l.frames) (drop l.mark-index l.marks) ≡ string_bytes l.fn.text ++ flat_map (mark_text l.frames) l.marks
