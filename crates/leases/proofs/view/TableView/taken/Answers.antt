use Rattle.std.proofs.Common.{Bool, ◌||◌, not, List, filter, ◌∙◌, ap}
use Rattle.farm_base.specs.declared.lease.Lease.{Lease}
use Rattle.protocol.specs.Names.{Slot}
use Rattle.protocol.specs.Ledger.{some_lease}
use Rattle.holdings.specs.Endings.{has_ended}
use Rattle.leases.specs.Leases.{Table}
use Rattle.holdings.specs.Leases.{among}
use Rattle.leases.specs.Table.{is_free}
use Rattle.leases.proofs.TableLemmas.{taken-changed}
use Rattle.leases.proofs.view.TableView.taken.Goals as goal

pub returns : goal.returns
returns c i from to =
    let s : Slot = record { folder = c.args.folder.now; instance = i } in
    let live : List Lease = filter (λ g. not (has_ended c.self.inside.ended.now g)) c.self.inside.live.now.leases in
    c.mark_all.ensures i to
    ∙ ap (λ (b : Bool). among c.self.inside.newly_retired.now s || b) (c.add_all.ensures i
    ∙ (λ j. c.instances_of.ensures i to j || (c.mark_leased.ensures i to ∙ ap (λ (b : Bool). some_lease c.self.inside.granted.now s || b) (c.taken_beside-taken.ensures i from to)) j))
    ∙ taken-changed live c.self.inside.granted.now c.self.inside.retired.now.slots c.self.inside.newly_retired.now s
    ∙ ap (λ (t : Table). not (is_free t s)) c.self.view_is
