use Rattle.std.proofs.Common.{◌≡◌, ◌≤◌, [], length}
use Rattle.std.specs.Vec.{vec_capacity}
use Rattle.keytable.specs.Searching.{IsLooking}
use Rattle.keytable.proofs.blaming.first_cause.Given as goal

abbrev pub invariant-loop-number : goal.invariant-loop-number
invariant-loop-number l = record {
  looking : IsLooking l.table.entries.items l.users.links.items l.wanted l.number l.flags;
  todo : l.todo.items ≡ [];
  room : length l.table.entries.items ≤ vec_capacity l.todo;
}
