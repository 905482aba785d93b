use Rattle.std.proofs.Common.{◌≡◌, ℕ, [], length}
use Rattle.ordering.specs.Rows.{row_at}
use Rattle.ordering.proofs.ordering.empty_lists.Given as goal

-- the lists so far are empty
abbrev pub invariant-loop : goal.invariant-loop
invariant-loop l = record {
  count : length l.lists.items ≡ l.counter;
  empty : (input : ℕ) → row_at l.lists.items input ≡ [];
}
