use Rattle.std.proofs.Common.{◌≡◌, ◌≤◌, ℕ, not, filter, take, get_or, vec_len}
use Rattle.std.specs.Vec.{vec_capacity}
use Rattle.farm_base.specs.declared.lease.Lease.{Lease}
use Rattle.holdings.specs.Endings.{ends_lease}
use Rattle.leaseindex.proofs.ending.drop_ending_from.Given as goal

abbrev pub invariant-loop-place : goal.invariant-loop-place
invariant-loop-place l = record {
  kept : l.kept ≤ l.place;
  end : l.place-end ≡ vec_len l.leases;
  len : vec_len l.leases ≡ vec_len l.initial.leases;
  capacity : vec_capacity l.leases ≡ vec_capacity l.initial.leases;
  left : take l.kept l.leases.items ≡ filter (λ g. not (ends_lease l.ending g)) (take l.place l.initial.leases.items);
  same : (k : ℕ) (d : Lease) → l.place ≤ k → get_or l.leases.items k d ≡ get_or l.initial.leases.items k d;
}
