use Rattle.std.proofs.Common.{◌≡◌, ℕ, ◌≤◌, ◌&&◌, not, drop}
use Rattle.holdings.specs.Endings.{ends_lease}
use Rattle.leaseindex.specs.Instances.{has}
use Rattle.leaseindex.proofs.TakenLemmas.{any_with}
use Rattle.leaseindex.proofs.marks.unmark_ending.Given as goal

abbrev pub invariant-loop-lease : goal.invariant-loop-lease
invariant-loop-lease l = (i : ℕ) → i ≤ 4096
    → (not (any_with (ends_lease l.ending) (drop l.lease-index l.leases) (record { folder = l.folder; instance = i })) && has l.marks i)
    ≡ (not (any_with (ends_lease l.ending) l.leases (record { folder = l.folder; instance = i })) && has l.initial.marks i)
