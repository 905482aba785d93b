use Rattle.std.proofs.Common.{◌≡◌, ℕ, ◌≤◌, ◌||◌, drop}
use Rattle.leaseindex.specs.Instances.{has}
use Rattle.holdings.specs.Leases.{among}
use Rattle.leaseindex.proofs.marks.mark_all.Given as goal

abbrev pub invariant-loop-slot : goal.invariant-loop-slot
invariant-loop-slot l = (i : ℕ) → i ≤ 4096
    → (among (drop l.slot-index l.slots) (record { folder = l.folder; instance = i }) || has l.marks i) ≡ (among l.slots (record { folder = l.folder; instance = i }) || has l.initial.marks i)
