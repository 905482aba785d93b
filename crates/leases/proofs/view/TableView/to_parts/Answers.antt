use Rattle.std.proofs.Common.{List, ◌++◌, not, filter, ap, ◌∙◌}
use Rattle.farm_base.specs.declared.lease.Lease.{Lease}
use Rattle.holdings.specs.Endings.{has_ended}
use Rattle.leases.specs.Leases.{Table}
use Rattle.leases.proofs.view.TableView.to_parts.Goals as goal

pub returns-clause-leases : goal.returns-clause-leases
returns-clause-leases c =
    c.in_ok-add_copies.ensures
    ∙ ap (λ (gs : List Lease). gs ++ c.self.inside.granted.now) c.in_ok-leases.ensures
    ∙ ap (λ (gs : List Lease). filter (λ g. not (has_ended c.self.inside.ended.now g)) gs ++ c.self.inside.granted.now) c.as_slice.ensures.value
    ∙ ap (λ (t : Table). t.live) c.self.view_is
