use Rattle.std.proofs.Common.{◌≡◌, ◌+◌, ◌≤◌, ◌<◌, ◌⊎◌, ℕ, true, Some, vec_len, slice_get}
use Rattle.std.specs.List.{Contains}
use Rattle.std.specs.Vec.{vec_capacity}
use Rattle.names.specs.declared.digest.Key.{Key}
use Rattle.ordering.specs.Flags.{flag_at}
use Rattle.ordering.specs.Sorting.{open_count}
use Rattle.keytable.specs.declared.entry.Entry.{Entry}
use Rattle.keytable.specs.Failing.{LacksOutput}
use Rattle.keytable.specs.Marks.{MarksFail}
use Rattle.keytable.specs.Spreading.{Marking}
use Rattle.keytable.specs.Users.{IsUser}
use Rattle.keytable.proofs.marking.mark_new.Given as goal

abbrev pub invariant-loop-number : goal.invariant-loop-number
invariant-loop-number l = record {
  marks : Marking l.fn.marks l.fn.todo.items l.marks l.todo.items;
  fail : MarksFail l.table.entries.items l.fn.marks → MarksFail l.table.entries.items l.marks;
  lacking : (m : ℕ) (x : Entry) (input : Key × ℕ) → l.from ≤ m → m < l.number → slice_get l.table.entries.items m ≡ Some x → Contains x.inputs input → LacksOutput l.table.entries.items input → flag_at l.marks m ≡ true;
  users : (user source : ℕ) → l.from ≤ user → user < l.number → IsUser l.table.entries.items user source → flag_at l.marks source ≡ true → flag_at l.marks user ≡ true ⊎ Contains l.todo.items source;
  steps : vec_len l.todo + open_count l.marks ≡ vec_len l.fn.todo + open_count l.fn.marks;
  capacity : vec_capacity l.todo ≡ vec_capacity l.fn.todo;
}
