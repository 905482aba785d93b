use Rattle.std.proofs.Common.{map, length}
use Rattle.std.specs.Option.{option_copied}
use Rattle.merging.specs.Views.{seen, lines_of, conflicts_of}
use Rattle.merging.proofs.DecideLoop.{IsDecided}
use Rattle.merging.proofs.merging.decide.Given as goal

abbrev pub invariant-loop-row : goal.invariant-loop-row
invariant-loop-row l = IsDecided l.rule (map seen l.fn.rows.items) (map seen l.rows.items) (option_copied l.next) (lines_of l.merged) (conflicts_of l.merged)

abbrev pub decreases-loop-row : goal.decreases-loop-row
decreases-loop-row l = length l.rows.items
