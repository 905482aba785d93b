use Rattle.std.proofs.Common.{List, ◌++◌, ◌∷◌, [], not, filter, ap, ◌∙◌}
use Rattle.protocol.specs.Names.{Slot}
use Rattle.farm_base.specs.declared.lease.Lease.{Lease}
use Rattle.leases.specs.Changes.{Change, changed}
use Rattle.holdings.specs.Endings.{ends_lease}
use Rattle.leases.specs.Leases.{Table}
use Rattle.leases.proofs.ChangeLemmas.{live-ended, sound-ended}
use Rattle.leases.proofs.changes.TableChange.end_all.Goals as goal

pub returns-clause-ok : goal.returns-clause-ok
returns-clause-ok c t =
    let new : Change = record { ended = c.push.new.self.items; granted = c.drop_ending.new.leases.items; retired = c.self.inside.retired.items } in
    let live = live-ended t c.args.self.now new c.args.ending (c.in_ok-push.ensures.items ∙ ap (λ (d : Change). d.ended ++ c.args.ending ∷ []) c.self.view_is) (c.drop_ending.ensures ∙ ap (λ (d : Change). filter (λ g. not (ends_lease c.args.ending g)) d.granted) c.self.view_is) in
    let with_live : List Lease → Table = λ live. record { live = live; retired = t.retired ++ c.self.inside.retired.items } in
    let with_retired : List Slot → Table = λ retired. record { live = filter (λ g. not (ends_lease c.args.ending g)) (changed t c.args.self.now).live; retired = t.retired ++ retired } in
    ap with_live live ∙ ap with_retired (ap (λ (d : Change). d.retired) c.self.view_is)

pub returns-clause-sound : goal.returns-clause-sound
returns-clause-sound c t sound =
    let new : Change = record { ended = c.push.new.self.items; granted = c.drop_ending.new.leases.items; retired = c.self.inside.retired.items } in
    sound-ended t c.args.self.now new c.args.ending (c.in_ok-push.ensures.items ∙ ap (λ (d : Change). d.ended ++ c.args.ending ∷ []) c.self.view_is) (c.drop_ending.ensures ∙ ap (λ (d : Change). filter (λ g. not (ends_lease c.args.ending g)) d.granted) c.self.view_is) sound
