use Rattle.std.proofs.Common.{List, ◌++◌, not, filter, ap, ◌∙◌}
use Rattle.farm_base.specs.declared.lease.Lease.{Lease}
use Rattle.protocol.specs.Names.{Slot}
use Rattle.protocol.specs.Ledger.{is_at}
use Rattle.holdings.specs.Endings.{has_ended}
use Rattle.leases.specs.Leases.{Table}
use Rattle.leases.specs.Table.{all_private}
use Rattle.leases.proofs.ChangeLemmas.{private_at-both}
use Rattle.leaseindex.proofs.LastLemmas.{last-passing}
use Rattle.leases.proofs.view.TableView.private_at.Goals as goal

pub returns : goal.returns
returns c =
    c.in_ok-append.ensures.items
    ∙ ap (λ (slots : List Slot). slots ++ c.in_ok-granted.granted.items) c.in_ok-private.ensures
    ∙ ap (λ (gs : List Lease). all_private gs ++ c.in_ok-granted.granted.items) (last-passing (is_at c.args.node) (λ g. not (has_ended c.self.inside.ended.now g)) c.last_at.result.now c.self.inside.live.now.leases c.last_at.ensures)
    ∙ ap (λ (slots : List Slot). all_private (filter (is_at c.args.node) (filter (λ g. not (has_ended c.self.inside.ended.now g)) c.self.inside.live.now.leases)) ++ slots) c.in_ok-granted.ensures
    ∙ private_at-both c.args.node (filter (λ g. not (has_ended c.self.inside.ended.now g)) c.self.inside.live.now.leases) c.self.inside.granted.now
    ∙ ap (λ (t : Table). all_private (filter (is_at c.args.node) t.live)) c.self.view_is
