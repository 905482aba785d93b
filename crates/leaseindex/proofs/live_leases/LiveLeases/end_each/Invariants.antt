use Rattle.std.proofs.Common.{◌≡◌, ◌≤◌, not, drop, filter}
use Rattle.holdings.specs.Endings.{has_ended}
use Rattle.leaseindex.proofs.live_leases.LiveLeases.end_each.Given as goal

abbrev pub invariant-loop-ending : goal.invariant-loop-ending
invariant-loop-ending l = record {
  rest : filter (λ g. not (has_ended (drop l.ending-index l.ended) g)) l.self.leases ≡ filter (λ g. not (has_ended l.ended g)) l.initial.self.leases;
  room : l.self.lease_room ≡ l.initial.self.lease_room;
  folders : l.initial.self.index_room ≤ l.self.index_room;
  taken : l.initial.self.instance_room ≤ l.self.instance_room;
  counts : l.initial.self.count_room ≤ l.self.count_room;
}
