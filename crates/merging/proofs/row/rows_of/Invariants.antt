use Rattle.std.proofs.Common.{◌+◌, map, length}
use Rattle.merging.specs.Rows.{rows_of}
use Rattle.merging.specs.Views.{seen}
use Rattle.merging.proofs.RowLoop.{IsOpen}
use Rattle.merging.proofs.row.rows_of.Given as goal

abbrev pub invariant-loop-path : goal.invariant-loop-path
invariant-loop-path l = IsOpen (rows_of l.base l.mine l.theirs) (map seen l.rows.items) l.base_left l.mine_left l.theirs_left

abbrev pub decreases-loop-path : goal.decreases-loop-path
decreases-loop-path l = length l.base_left + length l.mine_left + length l.theirs_left
