use Rattle.std.proofs.Common.{◌≡◌, ◌+◌, ◌≤◌, ℕ, true, vec_len}
use Rattle.std.specs.List.{Contains}
use Rattle.std.specs.Vec.{vec_capacity}
use Rattle.ordering.specs.Flags.{flag_at}
use Rattle.ordering.specs.Sorting.{open_count}
use Rattle.keytable.specs.Marks.{KeepsMarks}
use Rattle.keytable.specs.Spreading.{AreSpread, GetsMark}
use Rattle.keytable.proofs.marking.spread.Given as goal

abbrev pub invariant-loop-number : goal.invariant-loop-number
invariant-loop-number l = record {
  keeps : KeepsMarks l.fn.marks l.marks;
  only : (n : ℕ) → flag_at l.marks n ≡ true → GetsMark l.users.links.items l.fn.marks n;
  others : AreSpread l.users.links.items l.marks l.todo.items;
  marked : (n : ℕ) → Contains l.todo.items n → flag_at l.marks n ≡ true;
  room : vec_len l.todo + open_count l.marks ≤ vec_capacity l.todo;
  capacity : vec_capacity l.todo ≡ vec_capacity l.fn.todo;
}

abbrev pub decreases-loop-number : goal.decreases-loop-number
decreases-loop-number l = vec_len l.todo + open_count l.marks
