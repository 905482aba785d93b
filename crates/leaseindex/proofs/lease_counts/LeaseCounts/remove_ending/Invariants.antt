use Rattle.std.proofs.Common.{◌≤◌, ◌++◌, List, not, filter, take, drop}
use Rattle.farm_base.specs.declared.lease.Lease.{Lease}
use Rattle.leaseindex.specs.Counts.{count_room, AreCounted}
use Rattle.holdings.specs.Endings.{ends_lease}
use Rattle.leaseindex.proofs.lease_counts.LeaseCounts.remove_ending.Given as goal

abbrev pub invariant-loop-lease : goal.invariant-loop-lease
invariant-loop-lease l = record {
  counted : (front : List Lease) → AreCounted l.initial.self (front ++ l.leases)
      → AreCounted l.self ((front ++ filter (λ g. not (ends_lease l.ending g)) (take l.lease-index l.leases)) ++ drop l.lease-index l.leases);
  room : count_room l.initial.self ≤ count_room l.self;
}
