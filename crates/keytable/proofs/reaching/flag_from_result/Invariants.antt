use Rattle.std.proofs.Common.{◌+◌, length}
use Rattle.ordering.specs.Sorting.{open_count}
use Rattle.keytable.specs.Reaching.{IsReaching}
use Rattle.keytable.proofs.reaching.flag_from_result.Given as goal

abbrev pub invariant-loop-number : goal.invariant-loop-number
invariant-loop-number l = IsReaching l.graph l.flags l.todo.items

abbrev pub decreases-loop-number : goal.decreases-loop-number
decreases-loop-number l = length l.todo.items + open_count l.flags
