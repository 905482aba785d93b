use Rattle.std.proofs.Common.{rules, of_calls, ◌+◌, ◌-◌, ◌++◌, ℕ, List, not, ltb, length, take, drop, sym, ◌∙◌, ap, arith}
use Rattle.std.proofs.lemmas.List.{length-drop, get_or-take, take_all, take-append-drop, length-take}
use Rattle.std.proofs.lemmas.List.Sorted.{IsNonDecreasingBy-from_all_adjacent, IsPartitionedBy-ltb, IsPartitionPoint-from_clause}
use Rattle.farm_base.specs.declared.lease.Lease.{Lease}
use Rattle.leaseindex.proofs.lease_counts.since.Goals as goal

pub returns : goal.returns
returns c =
    let leases : List Lease = c.args.leases.now in
    let k : ℕ = c.partition_point-place.result in
    let point = IsPartitionPoint-from_clause (λ (g : Lease). ltb g.ticket.0 c.args.ticket.0) leases k c.partition_point-place.ensures.partitioned
    (IsPartitionedBy-ltb (λ (g : Lease). g.ticket.0) leases c.args.ticket.0 (IsNonDecreasingBy-from_all_adjacent (λ (g : Lease). g.ticket.0) leases (λ i d inside. (let rises = c.requires i (i + 1) d (omega arith) inside in omega arith)))) (λ a r f called. search (rules, of_calls)) in
    record {
      before = take k leases;
      whole = sym (take-append-drop k leases) ∙ ap (λ (gs : List Lease). take k leases ++ gs) (sym (take_all (length leases - k) (drop k leases) (omega (arith, length-drop k leases))));
      none = λ i d inside. (
          let len = length-take k leases in
          let at = get_or-take k leases i d (omega arith) in
          ap (λ (g : Lease). not (ltb g.ticket.0 c.args.ticket.0)) at ∙ ap not (point.0 i d (omega arith) (omega arith))
          );
    }
