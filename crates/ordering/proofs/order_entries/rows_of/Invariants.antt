use Rattle.ordering.specs.Entries.{AreRowsOf}
use Rattle.ordering.proofs.order_entries.rows_of.Given as goal

abbrev pub invariant-loop-place : goal.invariant-loop-place
invariant-loop-place l = AreRowsOf l.entries l.place l.rows.items
