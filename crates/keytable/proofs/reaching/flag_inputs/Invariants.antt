use Rattle.std.proofs.Common.{◌≡◌, ◌+◌, take, length}
use Rattle.ordering.specs.Sorting.{open_count}
use Rattle.keytable.specs.Reaching.{Reaching}
use Rattle.keytable.proofs.reaching.flag_inputs.Given as goal

abbrev pub invariant-loop-number : goal.invariant-loop-number
invariant-loop-number l = record {
  flagged : Reaching l.fn.flags l.fn.todo.items (take l.number-index l.edges) l.flags l.todo.items;
  open_ones : length l.todo.items + open_count l.flags ≡ length l.fn.todo.items + open_count l.fn.flags;
}
