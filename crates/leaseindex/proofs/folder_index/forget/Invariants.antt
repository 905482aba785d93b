use Rattle.std.proofs.Common.{◌≢◌, ◌≤◌}
use Rattle.indexmap.specs.IndexMap.{spare}
use Rattle.farm_base.specs.declared.lease.Lease.{Lease}
use Rattle.leaseindex.specs.Index.{ticket_at, IsIndexed}
use Rattle.leaseindex.proofs.folder_index.forget.Given as goal

abbrev pub invariant-loop-held : goal.invariant-loop-held
invariant-loop-held l = record {
  others : (g : Lease) → g.ticket ≢ l.lease.ticket → IsIndexed (ticket_at l.initial.index) g → IsIndexed (ticket_at l.index) g;
  room : spare l.initial.index ≤ spare l.index;
}
