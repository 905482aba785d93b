use Rattle.std.proofs.Common.{◌≡◌, ◌++◌, ◌∷◌, [], List, false, subst}
use Rattle.farm_base.specs.declared.lease.Lease.{Lease}
use Rattle.leaseindex.specs.Counts.{ask_eq, ask_count, Counts}
use Rattle.leaseindex.specs.declared.lease_counts.AskName.{AskName}
use Rattle.leaseindex.specs.declared.lease_counts.LeaseCounts.{LeaseCounts}
use Rattle.leaseindex.proofs.CountLemmas.{counted-more}
use Rattle.leaseindex.proofs.lease_counts.LeaseCounts.add.Goals as goal

pub returns-clause-counted : goal.returns-clause-counted
returns-clause-counted c live all =
    let old : LeaseCounts = c.args.self.now in
    let new : LeaseCounts = record { by_ask = c.count_more.new.counts; by_node = c.count_more-2.new.counts } in
    counted-more old new c.args.lease.now live
    (subst (λ (n : AskName). (others : List Lease) → Counts (ask_count old n) others → Counts (ask_count new n) (others ++ c.args.lease.now ∷ [])) c.of.ensures c.count_more.ensures.counted)
    (subst (λ (n : AskName). (k : AskName) → ask_eq n k ≡ false → ask_count new k ≡ ask_count old k) c.of.ensures c.count_more.ensures.others)
    c.count_more-2.ensures.counted c.count_more-2.ensures.others all
