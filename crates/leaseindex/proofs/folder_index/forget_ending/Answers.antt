use Rattle.std.proofs.Common.{◌≡◌, ◌≢◌, ◌≤◌, true, sym, ◌∙◌, subst, arith}
use Rattle.indexmap.specs.IndexMap.{spare}
use Rattle.farm_base.specs.declared.lease.Lease.{Lease}
use Rattle.holdings.specs.Endings.{ends_lease}
use Rattle.leaseindex.specs.Index.{ticket_at, IsIndexed}
use Rattle.leaseindex.proofs.folder_index.forget_ending.Goals as goal
use Rattle.leaseindex.proofs.folder_index.forget_ending.Goals.{then-ends, else-ends}

pub loop-lease-preserved : goal.loop-lease-preserved
loop-lease-preserved c = elim c.if-ends.branch [
  | then-ends w ↦ record {
    others = λ g apart was.
        let h : Lease = c.lease-item.result in
        let other : g.ticket ≢ h.ticket =
        subst (λ (x : Lease). ends_lease c.args.ending.now x ≡ true → g.ticket ≢ x.ticket) (sym c.lease-item.is) (apart c.loop-lease.lease-index h (omega arith)) (sym c.ends.ensures ∙ w.if-ends.true) in
        subst (λ m. IsIndexed (ticket_at m) g) (sym w.index-is) (w.forget.ensures.others g other (c.loop-lease.invariant.others g apart was));
    room = subst (λ m. spare c.args.index.now ≤ spare m) (sym w.index-is) (omega (arith, w.forget.ensures.room, c.loop-lease.invariant.room));
  }
  | else-ends w ↦ record {
    others = λ g apart was. subst (λ m. IsIndexed (ticket_at m) g) (sym w.index-is) (c.loop-lease.invariant.others g apart was);
    room = subst (λ m. spare c.args.index.now ≤ spare m) (sym w.index-is) c.loop-lease.invariant.room;
  }
]
