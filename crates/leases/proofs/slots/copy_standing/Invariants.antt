use Rattle.std.proofs.Common.{◌≡◌, ◌++◌, not, drop, filter}
use Rattle.holdings.specs.Endings.{has_ended}
use Rattle.leases.proofs.slots.copy_standing.Given as goal

abbrev pub invariant-loop-lease : goal.invariant-loop-lease
invariant-loop-lease l = l.copies.items ++ filter (λ g. not (has_ended l.ended g)) (drop l.lease-index l.leases) ≡ filter (λ g. not (has_ended l.ended g)) l.leases
