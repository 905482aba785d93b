use Rattle.std.proofs.Common.{◌≡◌, ◌+◌, ◌++◌, ◌∷◌, [], List, take, append_assoc, ap, sym, ◌∙◌, subst, arith}
use Rattle.std.proofs.lemmas.List.{take_more, take_all}
use Rattle.farm_base.specs.declared.lease.Lease.{Lease}
use Rattle.leaseindex.specs.Counts.{AreCounted}
use Rattle.leaseindex.proofs.lease_counts.LeaseCounts.add_all.Goals as goal

pub loop-lease-preserved : goal.loop-lease-preserved
loop-lease-preserved c = record {
  counted = λ live all. (
      let k = c.loop-lease.lease-index in
      let g : Lease = c.lease-item.result in
      let leases : List Lease = c.args.leases.now in
      let next : take (k + 1) leases ≡ take k leases ++ g ∷ [] = take_more leases k g (omega arith) ∙ ap (λ (h : Lease). take k leases ++ h ∷ []) (sym c.lease-item.is) in
      let joined : (live ++ take k leases) ++ g ∷ [] ≡ live ++ take (k + 1) leases = append_assoc live (take k leases) (g ∷ []) ∙ ap (λ (gs : List Lease). live ++ gs) (sym next) in
      subst (AreCounted c.add.new.self) joined (c.add.ensures.counted (live ++ take k leases) (c.loop-lease.invariant.counted live all))
      );
  room = omega (arith, c.add.ensures.room, c.loop-lease.invariant.room);
}

pub returns : goal.returns
returns c live all =
    subst (λ (gs : List Lease). AreCounted c.loop-lease.self (live ++ gs)) (take_all c.loop-lease.lease-index c.args.leases.now (omega arith)) (c.loop-lease.invariant.counted live all)
