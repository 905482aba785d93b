use Rattle.std.proofs.Common.{◌≤◌, ◌+◌, ◌++◌, List, length, take}
use Rattle.farm_base.specs.declared.lease.Lease.{Lease}
use Rattle.leaseindex.specs.Counts.{count_room, AreCounted}
use Rattle.leaseindex.proofs.lease_counts.LeaseCounts.add_all.Given as goal

abbrev pub invariant-loop-lease : goal.invariant-loop-lease
invariant-loop-lease l = record {
  counted : (live : List Lease) → AreCounted l.initial.self live → AreCounted l.self (live ++ take l.lease-index l.leases);
  room : length l.leases ≤ count_room l.self + l.lease-index;
}
