use Rattle.std.proofs.Common.{List, Bool, ◌++◌, not, filter, ap, ◌∙◌}
use Rattle.farm_base.specs.declared.lease.Lease.{Lease}
use Rattle.protocol.specs.Names.{Slot}
use Rattle.std.specs.List.{flat_map}
use Rattle.holdings.specs.Endings.{ends_lease, has_ended}
use Rattle.leases.specs.Changes.{slots_ended}
use Rattle.leases.specs.Leases.{Table}
use Rattle.leases.proofs.ChangeLemmas.{slots_ended-both}
use Rattle.leaseindex.proofs.LastLemmas.{last-passing}
use Rattle.leases.proofs.view.TableView.slots_ended.Goals as goal

pub returns : goal.returns
returns c =
    c.in_ok-append.ensures.items
    ∙ ap (λ (slots : List (Slot × Bool)). slots ++ c.in_ok-granted.granted.items) c.in_ok-slots.ensures
    ∙ ap (λ (gs : List Lease). flat_map (λ (g : Lease). g.slots) gs ++ c.in_ok-granted.granted.items) (last-passing (ends_lease c.args.ending) (λ g. not (has_ended c.self.inside.ended.now g)) c.last_ending.result.now c.self.inside.live.now.leases c.last_ending.ensures)
    ∙ ap (λ (slots : List (Slot × Bool)). slots_ended c.args.ending (filter (λ g. not (has_ended c.self.inside.ended.now g)) c.self.inside.live.now.leases) ++ slots) c.in_ok-granted.ensures
    ∙ slots_ended-both c.args.ending (filter (λ g. not (has_ended c.self.inside.ended.now g)) c.self.inside.live.now.leases) c.self.inside.granted.now
    ∙ ap (λ (t : Table). slots_ended c.args.ending t.live) c.self.view_is
