use Rattle.std.proofs.Common.{◌≡◌, ◌≢◌, ◌≤◌, true}
use Rattle.std.specs.Prelude.{All}
use Rattle.indexmap.specs.IndexMap.{spare}
use Rattle.farm_base.specs.declared.lease.Lease.{Lease}
use Rattle.holdings.specs.Endings.{ends_lease}
use Rattle.leaseindex.specs.Index.{ticket_at, IsIndexed}
use Rattle.leaseindex.proofs.folder_index.forget_ending.Given as goal

abbrev pub invariant-loop-lease : goal.invariant-loop-lease
invariant-loop-lease l = record {
  others : (g : Lease) → All (λ h. ends_lease l.ending h ≡ true → g.ticket ≢ h.ticket) l.leases → IsIndexed (ticket_at l.initial.index) g → IsIndexed (ticket_at l.index) g;
  room : spare l.initial.index ≤ spare l.index;
}
