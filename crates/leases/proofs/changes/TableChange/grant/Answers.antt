use Rattle.std.proofs.Common.{◌≡◌, ◌++◌, ◌∷◌, [], ap, sym, subst, ◌∙◌}
use Rattle.std.specs.List.{find}
use Rattle.farm_base.specs.declared.lease.Lease.{Lease}
use Rattle.protocol.specs.Ledger.{has_ticket}
use Rattle.leases.specs.Changes.{Change, changed}
use Rattle.leases.specs.Leases.{Table}
use Rattle.holdings.specs.Leases.{AreLeases}
use Rattle.leases.specs.Table.{lease_for}
use Rattle.leases.proofs.ChangeLemmas.{live-granted}
use Rattle.leases.proofs.TableLemmas.{leases-push, lease_under-push}
use Rattle.leases.proofs.changes.TableChange.grant.Goals as goal

pub returns-clause-found : goal.returns-clause-found
returns-clause-found c =
    let seen : Table = changed c.args.table.now c.args.self.now in
    let lease : Table → Lease = λ t. lease_for t c.args.parked.now.node c.args.parked.now.life c.args.parked.now.ask c.args.parked.now.wants c.args.parked.now.tenure c.args.ticket in
    let new : Change = record { ended = c.self.inside.ended.items; granted = c.push.new.self.items; retired = c.self.inside.retired.items } in
    let is : c.in_ok-lease.lease ≡ lease seen = c.in_ok-lease.ensures.value ∙ ap lease c.over-view.ensures in
    let live : (changed c.args.table.now new).live ≡ seen.live ++ lease seen ∷ [] =
    live-granted c.args.table.now c.args.self.now new c.in_ok-lease.lease (ap (λ (d : Change). d.ended) c.self.view_is) (c.in_ok-push.ensures.items ∙ ap (λ (d : Change). d.granted ++ c.in_ok-lease.lease ∷ []) c.self.view_is)
    ∙ ap (λ (g : Lease). seen.live ++ g ∷ []) is in
    ap (find (has_ticket c.args.ticket)) live ∙ lease_under-push seen.live (lease seen) c.requires.above

pub returns-clause-sound : goal.returns-clause-sound
returns-clause-sound c sound =
    let seen : Table = changed c.args.table.now c.args.self.now in
    let lease : Table → Lease = λ t. lease_for t c.args.parked.now.node c.args.parked.now.life c.args.parked.now.ask c.args.parked.now.wants c.args.parked.now.tenure c.args.ticket in
    let new : Change = record { ended = c.self.inside.ended.items; granted = c.push.new.self.items; retired = c.self.inside.retired.items } in
    let is : c.in_ok-lease.lease ≡ lease seen = c.in_ok-lease.ensures.value ∙ ap lease c.over-view.ensures in
    let live : (changed c.args.table.now new).live ≡ seen.live ++ lease seen ∷ [] =
    live-granted c.args.table.now c.args.self.now new c.in_ok-lease.lease (ap (λ (d : Change). d.ended) c.self.view_is) (c.in_ok-push.ensures.items ∙ ap (λ (d : Change). d.granted ++ c.in_ok-lease.lease ∷ []) c.self.view_is)
    ∙ ap (λ (g : Lease). seen.live ++ g ∷ []) is in
    subst AreLeases (sym live) (leases-push seen c.args.parked.now.node c.args.parked.now.life c.args.parked.now.ask c.args.parked.now.wants c.args.parked.now.tenure c.args.ticket sound c.in_ok-lease.ensures.sorted c.requires.fits c.requires.above)
