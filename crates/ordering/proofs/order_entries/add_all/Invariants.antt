use Rattle.std.proofs.Common.{take}
use Rattle.ordering.specs.Firsts.{IsTable}
use Rattle.ordering.specs.Entries.{digests_of}
use Rattle.ordering.proofs.order_entries.add_all.Given as goal

abbrev pub invariant-loop-place : goal.invariant-loop-place
invariant-loop-place l = IsTable (digests_of (take l.place l.entries)) l.table
