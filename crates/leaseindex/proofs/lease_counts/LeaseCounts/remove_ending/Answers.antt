use Rattle.std.proofs.Common.{◌≡◌, ◌+◌, ◌≤◌, ◌++◌, ◌∷◌, [], Bool, cond, not, List, filter, take, drop, append_assoc, append-nil, ap, sym, ◌∙◌, subst, arith}
use Rattle.farm_base.specs.declared.lease.Lease.{Lease}
use Rattle.leaseindex.specs.Counts.{count_room, AreCounted}
use Rattle.holdings.specs.Endings.{ends_lease}
use Rattle.leaseindex.specs.declared.lease_counts.LeaseCounts.{LeaseCounts}
use Rattle.leaseindex.proofs.CountLemmas.{kept_next, gone_next, kept_all}
use Rattle.leaseindex.proofs.lease_counts.LeaseCounts.remove_ending.Goals as goal
use Rattle.leaseindex.proofs.lease_counts.LeaseCounts.remove_ending.Goals.{then-ends, else-ends}

pub loop-lease-init : goal.loop-lease-init
loop-lease-init c = record {
  counted = λ front all. subst (λ (gs : List Lease). AreCounted c.args.self.now (gs ++ c.args.leases.now)) (sym (append-nil front)) all;
  room = omega arith;
}

pub loop-lease-preserved : goal.loop-lease-preserved
loop-lease-preserved c =
    let k = c.loop-lease.lease-index in
    let g : Lease = c.lease-item.result in
    let leases : List Lease = c.args.leases.now in
    let rest : List Lease = drop (k + 1) leases in
    let test : Lease → Bool = ends_lease c.args.ending.now in
    let kept : List Lease = filter (λ h. not (test h)) (take k leases) in
    let next : List Lease = filter (λ h. not (test h)) (take (k + 1) leases) in
    let first : drop k leases ≡ g ∷ rest = gone_next leases k g (omega arith) c.lease-item.is in
    elim c.if-ends.branch [
      | then-ends w ↦ record {
        counted = λ front all. (
            let before : AreCounted c.loop-lease.self ((front ++ kept) ++ g ∷ rest) = subst (λ (gs : List Lease). AreCounted c.loop-lease.self ((front ++ kept) ++ gs)) first (c.loop-lease.invariant.counted front all) in
            let same : next ≡ kept = kept_next test leases k g (omega arith) c.lease-item.is ∙ (ap (λ (b : Bool). kept ++ cond (not b) (g ∷ []) []) (sym c.ends.ensures ∙ w.if-ends.true) ∙ append-nil kept) in
            subst (λ (x : LeaseCounts). AreCounted x ((front ++ next) ++ rest)) (sym w.self-is)
            (subst (λ (gs : List Lease). AreCounted w.remove.new.self ((front ++ gs) ++ rest)) (sym same) (w.remove.ensures.counted (front ++ kept) rest before))
            );
        room = subst (λ (x : LeaseCounts). count_room c.args.self.now ≤ count_room x) (sym w.self-is) (omega (arith, w.remove.ensures.room, c.loop-lease.invariant.room));
      }
      | else-ends w ↦ record {
        counted = λ front all. (
            let before : AreCounted c.loop-lease.self ((front ++ kept) ++ g ∷ rest) = subst (λ (gs : List Lease). AreCounted c.loop-lease.self ((front ++ kept) ++ gs)) first (c.loop-lease.invariant.counted front all) in
            let more : next ≡ kept ++ g ∷ [] = kept_next test leases k g (omega arith) c.lease-item.is ∙ ap (λ (b : Bool). kept ++ cond (not b) (g ∷ []) []) (sym c.ends.ensures ∙ w.if-ends.false) in
            let after : (front ++ kept) ++ g ∷ rest ≡ (front ++ next) ++ rest =
            sym (append_assoc (front ++ kept) (g ∷ []) rest) ∙ ap (λ (gs : List Lease). gs ++ rest) (append_assoc front kept (g ∷ []) ∙ ap (λ (gs : List Lease). front ++ gs) (sym more)) in
            subst (λ (x : LeaseCounts). AreCounted x ((front ++ next) ++ rest)) (sym w.self-is) (subst (AreCounted c.loop-lease.self) after before)
            );
        room = subst (λ (x : LeaseCounts). count_room c.args.self.now ≤ count_room x) (sym w.self-is) c.loop-lease.invariant.room;
      }
    ]

pub returns-clause-counted : goal.returns-clause-counted
returns-clause-counted c front all =
    let k = c.loop-lease.lease-index in
    let leases : List Lease = c.args.leases.now in
    let test : Lease → Bool = ends_lease c.args.ending.now in
    let kept : List Lease = filter (λ h. not (test h)) (take k leases) in
    subst (AreCounted c.loop-lease.self) (append_assoc front kept (drop k leases) ∙ ap (λ (gs : List Lease). front ++ gs) (kept_all test leases k (omega arith))) (c.loop-lease.invariant.counted front all)
