use Rattle.std.proofs.Common.{◌≡◌, Ok, ap, sym, ◌∙◌, subst}
use Rattle.std.specs.Result.{result_err}
use Rattle.protocol.specs.Farm.{farm_limits}
use Rattle.protocol.specs.Ledger.{Ledger, Work, begin_work, retired}
use Rattle.drafts.specs.declared.draft.Draft.{Draft}
use Rattle.effects.specs.declared.effects.Effects.{Effects}
use Rattle.effects.specs.declared.state.State.{State}
use Rattle.effects.specs.Held.{Held, ledger}
use Rattle.effects.specs.Sound.{AreHeldUp}
use Rattle.effects.specs.Keeps.{held, IsKeepable}
use Rattle.ledger.specs.Prepared.{ChangesAsTold}
use Rattle.drafts.specs.Shown.{work}
use Rattle.effects.specs.Sound.{IsSound}
use Rattle.drafts.proofs.Drafting.{over}
use Rattle.coordinator.proofs.Drafted.{prepared}
use Rattle.coordinator.proofs.Rightful.{rightful-retired}
use Rattle.coordinator.proofs.Recording.{retired-told}
use Rattle.coordinator.proofs.preparing.retirement.Goals as goal

pub retire-requires-clause-sound : goal.retire-requires-clause-sound
retire-requires-clause-sound c =
    let P : Work → Type 0 = λ w. IsSound w.ledger in
    subst P (sym c.in_ok-draft.ensures.work) c.requires.keepable.rightful.sound

pub retire-requires-clause-held_up : goal.retire-requires-clause-held_up
retire-requires-clause-held_up c =
    let P : Work → Type 0 = λ w. AreHeldUp w.ledger in
    subst P (sym c.in_ok-draft.ensures.work) c.requires.keepable.rightful.held_up

pub retire-requires-clause-kept : goal.retire-requires-clause-kept
retire-requires-clause-kept c = subst IsKeepable (sym c.in_ok-draft.ensures.base) c.requires.keepable

pub retire-requires-clause-accepted : goal.retire-requires-clause-accepted
retire-requires-clause-accepted c =
    ap (λ (w : Work). result_err (retired farm_limits c.args.node w)) c.in_ok-draft.ensures.work ∙ c.requires.accepted

pub returns-clause-work : goal.returns-clause-work
returns-clause-work c =
    let effects : Effects = c.in_ok-prepared.prepared.effects.value in
    let base : c.retire.new.self.base.now ≡ c.args.state.now = c.in_ok-retire.ensures.base ∙ c.in_ok-draft.ensures.base in
    let same : effects ≡ c.retire.new.self.effects.value = (λ j. (c.in_ok-prepared.ensures.effects j).value) in
    let h : Held = held c.args.state.now in
    ap (retired farm_limits c.args.node) (sym c.in_ok-draft.ensures.work) ∙ c.in_ok-retire.ensures.work ∙ ap (λ (w : Work). Ok w) (sym (over c.args.state.now c.retire.new.self effects base same))

pub returns-clause-prepared : goal.returns-clause-prepared
returns-clause-prepared c =
    let s : State = c.args.state.now in
    let q : Ledger = ledger (held s) in
    let draft : Draft = c.retire.new.self in
    let made : retired farm_limits c.args.node (begin_work q) ≡ Ok (work draft) = ap (retired farm_limits c.args.node) (sym c.in_ok-draft.ensures.work) ∙ c.in_ok-retire.ensures.work in
    prepared s draft c.in_ok-prepared.prepared (c.in_ok-retire.ensures.base ∙ c.in_ok-draft.ensures.base) c.in_ok-prepared.ensures.effects c.in_ok-prepared.ensures.empty c.in_ok-prepared.ensures.larger c.in_ok-retire.ensures.ready
    (rightful-retired c.args.node q (work draft) c.requires.keepable.rightful c.requires.number made c.in_ok-retire.ensures.sound)
    (subst (ChangesAsTold q) made (retired-told c.args.node q))
