use Rattle.std.proofs.Common.{[]}
use Rattle.ordering.specs.Sorting.{HasShape, IsSorting, open_count}
use Rattle.ordering.proofs.ordering.order_of.Given as goal

abbrev pub invariant-loop-waiters : goal.invariant-loop-waiters
invariant-loop-waiters l = record {
  shape : HasShape l.rows l.sorting;
  sorting : IsSorting l.vertices l.rows l.sorting [];
}

abbrev pub decreases-loop-waiters : goal.decreases-loop-waiters
decreases-loop-waiters l = open_count l.sorting.placed.items
