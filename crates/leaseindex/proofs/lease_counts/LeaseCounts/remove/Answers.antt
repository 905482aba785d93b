use Rattle.std.proofs.Common.{◌≡◌, ◌++◌, ◌∷◌, List, false, subst}
use Rattle.farm_base.specs.declared.lease.Lease.{Lease}
use Rattle.leaseindex.specs.Counts.{ask_eq, ask_count, Counts}
use Rattle.leaseindex.specs.declared.lease_counts.AskName.{AskName}
use Rattle.leaseindex.specs.declared.lease_counts.LeaseCounts.{LeaseCounts}
use Rattle.leaseindex.proofs.CountLemmas.{counted-less}
use Rattle.leaseindex.proofs.lease_counts.LeaseCounts.remove.Goals as goal

pub returns-clause-counted : goal.returns-clause-counted
returns-clause-counted c front back all =
    let old : LeaseCounts = c.args.self.now in
    let new : LeaseCounts = record { by_ask = c.count_less.new.counts; by_node = c.count_less-2.new.counts } in
    counted-less old new c.args.lease.now front back
    (subst (λ (n : AskName). (fs : List Lease) (h : Lease) (bs : List Lease) → Counts (ask_count old n) (fs ++ h ∷ bs) → Counts (ask_count new n) (fs ++ bs)) c.of.ensures c.count_less.ensures.counted)
    (subst (λ (n : AskName). (k : AskName) → ask_eq n k ≡ false → ask_count new k ≡ ask_count old k) c.of.ensures c.count_less.ensures.others)
    c.count_less-2.ensures.counted c.count_less-2.ensures.others all
