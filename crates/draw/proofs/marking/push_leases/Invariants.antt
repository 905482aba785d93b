use Rattle.std.proofs.Common.{◌≡◌, ◌++◌, drop}
use Rattle.std.specs.List.{flat_map}
use Rattle.draw.specs.Marks.{lease_mark}
use Rattle.draw.proofs.marking.push_leases.Given as goal

abbrev pub invariant-loop-held : goal.invariant-loop-held
invariant-loop-held l = l.marks.items ++ flat_map (lease_mark l.lines l.before l.row l.rest) (drop l.held-index l.live)
    ≡ l.fn.marks.items ++ flat_map (lease_mark l.lines l.before l.row l.rest) l.live
