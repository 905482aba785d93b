use Rattle.std.proofs.Common.{◌≡◌, ◌+◌, ◌⊎◌, ℕ, true, None, vec_len, slice_get}
use Rattle.std.specs.Vec.{vec_capacity}
use Rattle.ordering.specs.Flags.{flag_at}
use Rattle.ordering.specs.Sorting.{open_count}
use Rattle.keytable.specs.declared.users.Link.{Link}
use Rattle.keytable.specs.Spreading.{Lacks, Marking}
use Rattle.keytable.proofs.UserLemmas.{IsWalking, steps_left}
use Rattle.keytable.proofs.marking.mark_users.Given as goal

abbrev pub invariant-loop-next : goal.invariant-loop-next
invariant-loop-next l = record {
  marks : Marking l.fn.marks l.fn.todo.items l.marks l.todo.items;
  only : (user : ℕ) → flag_at l.marks user ≡ true → flag_at l.fn.marks user ≡ true ⊎ Lacks l.users.links.items l.number l.outputs user;
  steps : vec_len l.todo + open_count l.marks ≡ vec_len l.fn.todo + open_count l.fn.marks;
  capacity : vec_capacity l.todo ≡ vec_capacity l.fn.todo;
  walk : IsWalking l.users.links.items l.number (λ (link : Link). slice_get l.outputs link.index ≡ None → flag_at l.marks link.user ≡ true) l.next;
}

abbrev pub decreases-loop-next : goal.decreases-loop-next
decreases-loop-next l = steps_left l.next
