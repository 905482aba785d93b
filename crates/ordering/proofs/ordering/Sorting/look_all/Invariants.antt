use Rattle.std.proofs.Common.{◌≡◌, List, ℕ, drop}
use Rattle.ordering.specs.Sorting.{HasShape, IsSorting}
use Rattle.ordering.proofs.ordering.Sorting.look_all.Given as goal

-- the waiters from this one on are still to be looked at
abbrev pub invariant-loop-waiter : goal.invariant-loop-waiter
invariant-loop-waiter l = record {
  shape : HasShape l.rows l.self;
  placed : l.self.placed ≡ l.initial.self.placed;
  sorting : (vertices : List ℕ) → IsSorting vertices l.rows l.initial.self l.waiters → IsSorting vertices l.rows l.self (drop l.waiter-index l.waiters);
}
