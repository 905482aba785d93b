use Rattle.std.proofs.Common.{◌∙◌, ◌&&◌, Bool, List, ap}
use Rattle.std.specs.Prelude.{count_by, nat_lt}
use Rattle.farm_base.specs.declared.lease.Lease.{Lease}
use Rattle.protocol.specs.Ledger.{is_at, is_older}
use Rattle.leases.specs.Leases.{Table}
use Rattle.leaseindex.proofs.LastLemmas.{last-weaker, last-count}
use Rattle.leases.proofs.lease_table.LeaseTable.end_lives_below.Goals as goal

pub returns-clause-ended : goal.returns-clause-ended
returns-clause-ended c =
    let older : Lease → Bool = is_older c.args.node c.args.life in
    let live : List Lease = c.self.inside.live.leases in
    let last : List Lease = c.last_at.result.now in
    c.count_older-ended.ensures
    ∙ last-count older last live (last-weaker (is_at c.args.node) older last live (λ g e. ap (λ (b : Bool). b && nat_lt g.life.0 c.args.life.0) e) c.last_at.ensures)
    ∙ ap (λ (t : Table). count_by older t.live) c.self.view_is
