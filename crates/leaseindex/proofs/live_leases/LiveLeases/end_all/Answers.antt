use Rattle.std.proofs.Common.{◌≡◌, [], List, length, sym, ◌∙◌, subst, eqb-true}
use Rattle.std.proofs.lemmas.List.{nil_from_length}
use Rattle.farm_base.specs.declared.lease.Lease.{Lease}
use Rattle.holdings.specs.Endings.{ends_lease}
use Rattle.leaseindex.specs.Counts.{AreLast}
use Rattle.leaseindex.proofs.LastLemmas.{last-none}
use Rattle.leaseindex.proofs.live_leases.LiveLeases.end_all.Goals as goal

pub returns-else-not-is_empty-clause-rest : goal.returns-else-not-is_empty-clause-rest
returns-else-not-is_empty-clause-rest c =
    let live : List Lease = c.args.self.now.leases in
    let none : c.last_ending.result.now ≡ [] = nil_from_length c.last_ending.result.now (eqb-true (length c.last_ending.result.now) 0 (sym c.is_empty.ensures ∙ c.if-not-is_empty.false)) in
    last-none (ends_lease c.args.ending.now) live (subst (λ (gs : List Lease). AreLast (ends_lease c.args.ending.now) gs live) none c.last_ending.ensures)
