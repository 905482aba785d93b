use Rattle.std.proofs.Common.{◌≡◌, ◌++◌, drop}
use Rattle.std.specs.List.{flat_map}
use Rattle.draw.specs.Marks.{life_mark}
use Rattle.draw.proofs.marking.push_lives.Given as goal

abbrev pub invariant-loop-line : goal.invariant-loop-line
invariant-loop-line l = l.marks.items ++ flat_map (life_mark l.lines l.row l.frame l.rest) (drop l.line-index l.lines)
    ≡ l.fn.marks.items ++ flat_map (life_mark l.lines l.row l.frame l.rest) l.lines
