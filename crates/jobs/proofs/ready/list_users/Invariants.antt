use Rattle.std.proofs.Common.{ℕ, length}
use Rattle.std.specs.List.{Contains}
use Rattle.keytable.specs.declared.users.Link.{Link}
use Rattle.jobs.specs.ReadyLists.{AreCursors, IsList, IsReadyAt, HasRoom, listed}
use Rattle.keytable.proofs.UserLemmas.{IsWalking, steps_left}
use Rattle.jobs.proofs.ready.list_users.Given as goal

abbrev pub invariant-loop-next : goal.invariant-loop-next
invariant-loop-next l = record {
  cursors : AreCursors l.table.entries.items l.ready.cursors.items;
  list : IsList l.table.entries.items l.ready;
  room : HasRoom (length l.table.entries.items) l.ready;
  kept : (m : ℕ) → Contains (listed l.fn.ready) m → Contains (listed l.ready) m;
  walk : IsWalking l.users.links.items l.number (λ (link : Link). IsReadyAt l.table.entries.items link.user → Contains (listed l.ready) link.user) l.next;
}

abbrev pub decreases-loop-next : goal.decreases-loop-next
decreases-loop-next l = steps_left l.next
