use Rattle.std.proofs.Common.{◌≡◌, ℕ, true}
use Rattle.std.specs.Ordering.{nat_cmp}
use Rattle.std.specs.BTreeSet.{contains, btree_set_len}
use Rattle.protocol.specs.Lists.{In}
use Rattle.parked.proofs.noted_asks.drop_gone.Given as goal

abbrev pub invariant-loop-first : goal.invariant-loop-first
invariant-loop-first l = (n : ℕ) → In n l.waiting → contains nat_cmp l.initial.numbers n ≡ true → contains nat_cmp l.numbers n ≡ true

abbrev pub decreases-loop-first : goal.decreases-loop-first
decreases-loop-first l = btree_set_len l.numbers
