use Rattle.std.proofs.Common.{◌≡◌, ℕ, ◌≤◌, ◌&&◌, not, drop}
use Rattle.protocol.specs.Ledger.{has_slot}
use Rattle.leaseindex.specs.Instances.{has}
use Rattle.leaseindex.proofs.marks.unmark_lease.Given as goal

abbrev pub invariant-loop-held : goal.invariant-loop-held
invariant-loop-held l = (i : ℕ) → i ≤ 4096
    → (not (has_slot (drop l.held-index l.slots) (record { folder = l.folder; instance = i })) && has l.marks i) ≡ (not (has_slot l.slots (record { folder = l.folder; instance = i })) && has l.initial.marks i)
