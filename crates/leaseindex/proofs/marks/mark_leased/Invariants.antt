use Rattle.std.proofs.Common.{◌≡◌, ℕ, ◌≤◌, ◌||◌, drop}
use Rattle.protocol.specs.Ledger.{some_lease}
use Rattle.leaseindex.specs.Instances.{has}
use Rattle.leaseindex.proofs.marks.mark_leased.Given as goal

abbrev pub invariant-loop-lease : goal.invariant-loop-lease
invariant-loop-lease l = (i : ℕ) → i ≤ 4096
    → (some_lease (drop l.lease-index l.leases) (record { folder = l.folder; instance = i }) || has l.marks i) ≡ (some_lease l.leases (record { folder = l.folder; instance = i }) || has l.initial.marks i)
