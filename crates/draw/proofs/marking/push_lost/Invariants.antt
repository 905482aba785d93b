use Rattle.std.proofs.Common.{◌≡◌, ◌++◌, drop}
use Rattle.std.specs.List.{flat_map}
use Rattle.draw.specs.Marks.{lost_mark}
use Rattle.draw.proofs.marking.push_lost.Given as goal

abbrev pub invariant-loop-message : goal.invariant-loop-message
invariant-loop-message l = l.marks.items ++ flat_map (lost_mark l.scene l.row l.frame) (drop l.message-index l.sent)
    ≡ l.fn.marks.items ++ flat_map (lost_mark l.scene l.row l.frame) l.sent
