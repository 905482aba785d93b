use Rattle.std.proofs.Common.{◌≡◌, ℕ, ◌≤◌, ◌&&◌, not, drop, filter}
use Rattle.protocol.specs.Ledger.{some_lease}
use Rattle.holdings.specs.Endings.{has_ended}
use Rattle.leaseindex.specs.Instances.{has}
use Rattle.leaseindex.proofs.TakenLemmas.{any_with}
use Rattle.leaseindex.proofs.live_leases.LiveLeases.taken_beside.Given as goal

abbrev pub invariant-loop-ending : goal.invariant-loop-ending
invariant-loop-ending l = (i : ℕ) → 1 ≤ i → i ≤ 4096
    → (not (any_with (has_ended (drop l.ending-index l.ended)) l.self.leases (record { folder = l.folder; instance = i })) && has l.taken i)
    ≡ some_lease (filter (λ g. not (has_ended l.ended g)) l.self.leases) (record { folder = l.folder; instance = i })
