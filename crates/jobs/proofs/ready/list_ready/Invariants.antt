use Rattle.std.proofs.Common.{ℕ, ◌<◌, length}
use Rattle.std.specs.List.{Contains}
use Rattle.jobs.specs.ReadyLists.{AreCursors, IsList, IsReadyAt, HasRoom, listed}
use Rattle.jobs.proofs.ready.list_ready.Given as goal

abbrev pub invariant-loop-number : goal.invariant-loop-number
invariant-loop-number l = record {
  cursors : AreCursors l.table.entries.items l.ready.cursors.items;
  list : IsList l.table.entries.items l.ready;
  room : HasRoom (length l.table.entries.items) l.ready;
  below : (n : ℕ) → n < l.number → IsReadyAt l.table.entries.items n → Contains (listed l.ready) n;
}
