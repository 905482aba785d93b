use Rattle.std.proofs.Common.{◌≡◌, ◌≤◌, ◌+◌, length, drop}
use Rattle.nodeasks.specs.Rows.{row_endings}
use Rattle.nodeasks.proofs.ask_table.last_endings.Given as goal

abbrev pub invariant-loop-first : goal.invariant-loop-first
invariant-loop-first l = record {
  inside : l.first ≤ length l.rows;
  many : l.left + row_endings (drop l.first l.rows) ≡ l.many;
}

abbrev pub decreases-loop-first : goal.decreases-loop-first
decreases-loop-first l = l.first
