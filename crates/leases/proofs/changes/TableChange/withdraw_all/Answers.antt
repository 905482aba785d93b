use Rattle.std.proofs.Common.{◌≡◌, ◌++◌, ◌∷◌, [], not, filter, ap, ◌∙◌}
use Rattle.leases.specs.Changes.{Change}
use Rattle.holdings.specs.Endings.{ends_lease}
use Rattle.leases.proofs.ChangeLemmas.{live-ended, sound-ended}
use Rattle.leases.proofs.changes.TableChange.withdraw_all.Goals as goal

pub returns-clause-live : goal.returns-clause-live
returns-clause-live c t =
    let new : Change = record { ended = c.push.new.self.items; granted = c.drop_ending.new.leases.items; retired = c.append.new.self.items } in
    let pushed : c.push.new.self.items ≡ c.reserve.new.self.items ++ c.args.ending ∷ [] = rw c.unwrap.ensures at c.push.ensures.items in
    let ended : c.push.new.self.items ≡ c.args.self.now.ended ++ c.args.ending ∷ [] = pushed ∙ rw c.reserve.ensures.items (ap (λ (d : Change). d.ended ++ c.args.ending ∷ []) c.self.view_is) in
    live-ended t c.args.self.now new c.args.ending ended (c.drop_ending.ensures ∙ ap (λ (d : Change). filter (λ g. not (ends_lease c.args.ending g)) d.granted) c.self.view_is)

pub returns-clause-sound : goal.returns-clause-sound
returns-clause-sound c t sound =
    let new : Change = record { ended = c.push.new.self.items; granted = c.drop_ending.new.leases.items; retired = c.append.new.self.items } in
    let pushed : c.push.new.self.items ≡ c.reserve.new.self.items ++ c.args.ending ∷ [] = rw c.unwrap.ensures at c.push.ensures.items in
    let ended : c.push.new.self.items ≡ c.args.self.now.ended ++ c.args.ending ∷ [] = pushed ∙ rw c.reserve.ensures.items (ap (λ (d : Change). d.ended ++ c.args.ending ∷ []) c.self.view_is) in
    sound-ended t c.args.self.now new c.args.ending ended (c.drop_ending.ensures ∙ ap (λ (d : Change). filter (λ g. not (ends_lease c.args.ending g)) d.granted) c.self.view_is) sound
