use Rattle.std.proofs.Common.{◌≡◌, Ok, ap, sym, ◌∙◌, subst}
use Rattle.protocol.specs.Farm.{farm_limits}
use Rattle.protocol.specs.Ledger.{Ledger, Work, begin_work, handled}
use Rattle.drafts.specs.declared.draft.Draft.{Draft}
use Rattle.effects.specs.declared.effects.Effects.{Effects}
use Rattle.effects.specs.declared.state.State.{State}
use Rattle.effects.specs.Held.{Held, ledger}
use Rattle.effects.specs.Sound.{AreHeldUp}
use Rattle.effects.specs.Keeps.{held, IsKeepable}
use Rattle.ledger.specs.Prepared.{ChangesAsTold}
use Rattle.drafts.specs.Shown.{work}
use Rattle.effects.specs.Sound.{IsSound, IsRightful}
use Rattle.drafts.proofs.Drafting.{over}
use Rattle.coordinator.proofs.Drafted.{prepared}
use Rattle.coordinator.proofs.Rightful.{rightful-handled}
use Rattle.coordinator.proofs.Recording.{handled-told}
use Rattle.coordinator.proofs.preparing.prepare.Goals as goal

pub deliver-requires-clause-sound : goal.deliver-requires-clause-sound
deliver-requires-clause-sound c =
    let P : Work → Type 0 = λ w. IsSound w.ledger in
    subst P (sym c.in_ok-draft.ensures.work) c.requires.keepable.rightful.sound

pub deliver-requires-clause-held_up : goal.deliver-requires-clause-held_up
deliver-requires-clause-held_up c =
    let P : Work → Type 0 = λ w. AreHeldUp w.ledger in
    subst P (sym c.in_ok-draft.ensures.work) c.requires.keepable.rightful.held_up

pub deliver-requires-clause-kept : goal.deliver-requires-clause-kept
deliver-requires-clause-kept c = subst IsKeepable (sym c.in_ok-draft.ensures.base) c.requires.keepable

pub returns-clause-work : goal.returns-clause-work
returns-clause-work c =
    let effects : Effects = c.in_ok-prepared.prepared.effects.value in
    let base : c.deliver.new.self.base.now ≡ c.args.state.now = c.in_ok-deliver.ensures.base ∙ c.in_ok-draft.ensures.base in
    let same : effects ≡ c.deliver.new.self.effects.value = (λ j. (c.in_ok-prepared.ensures.effects j).value) in
    let h : Held = held c.args.state.now in
    over c.args.state.now c.deliver.new.self effects base same ∙ c.in_ok-deliver.ensures.work ∙ ap (handled farm_limits c.args.message.now) c.in_ok-draft.ensures.work

pub returns-clause-prepared : goal.returns-clause-prepared
returns-clause-prepared c =
    let s : State = c.args.state.now in
    let q : Ledger = ledger (held s) in
    let draft : Draft = c.deliver.new.self in
    let made : work draft ≡ handled farm_limits c.args.message.now (begin_work q) = c.in_ok-deliver.ensures.work ∙ ap (handled farm_limits c.args.message.now) c.in_ok-draft.ensures.work in
    prepared s draft c.in_ok-prepared.prepared (c.in_ok-deliver.ensures.base ∙ c.in_ok-draft.ensures.base) c.in_ok-prepared.ensures.effects c.in_ok-prepared.ensures.empty c.in_ok-prepared.ensures.larger c.in_ok-deliver.ensures.ready
    (subst (λ (w : Work). IsRightful w.ledger) (sym made) (rightful-handled c.args.message.now q c.requires.keepable.rightful c.requires.said))
    (subst (λ (w : Work). ChangesAsTold q (Ok w)) (sym made) (handled-told c.args.message.now q c.requires.keepable.rightful.sound))
