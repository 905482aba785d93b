use Rattle.std.proofs.Common.{◌≡◌, Ok, ap, sym, ◌∙◌, subst}
use Rattle.std.specs.Result.{result_err}
use Rattle.protocol.specs.Farm.{farm_limits}
use Rattle.protocol.specs.Ledger.{Ledger, Work, begin_work, withdrawn}
use Rattle.drafts.specs.declared.draft.Draft.{Draft}
use Rattle.effects.specs.declared.effects.Effects.{Effects}
use Rattle.effects.specs.declared.state.State.{State}
use Rattle.effects.specs.Held.{Held, ledger}
use Rattle.effects.specs.Sound.{AreHeldUp}
use Rattle.effects.specs.Keeps.{held, IsKeepable}
use Rattle.ledger.specs.Prepared.{ChangesAsTold}
use Rattle.drafts.specs.Shown.{work}
use Rattle.effects.specs.Sound.{IsSound}
use Rattle.drafts.proofs.Drafting.{over}
use Rattle.coordinator.proofs.Drafted.{prepared}
use Rattle.coordinator.proofs.Rightful.{rightful-withdrawn}
use Rattle.coordinator.proofs.Recording.{withdrawn-told}
use Rattle.coordinator.proofs.preparing.withdrawal.Goals as goal

pub withdraw-requires-clause-sound : goal.withdraw-requires-clause-sound
withdraw-requires-clause-sound c =
    let P : Work → Type 0 = λ w. IsSound w.ledger in
    subst P (sym c.in_ok-draft.ensures.work) c.requires.keepable.rightful.sound

pub withdraw-requires-clause-held_up : goal.withdraw-requires-clause-held_up
withdraw-requires-clause-held_up c =
    let P : Work → Type 0 = λ w. AreHeldUp w.ledger in
    subst P (sym c.in_ok-draft.ensures.work) c.requires.keepable.rightful.held_up

pub withdraw-requires-clause-kept : goal.withdraw-requires-clause-kept
withdraw-requires-clause-kept c = subst IsKeepable (sym c.in_ok-draft.ensures.base) c.requires.keepable

pub withdraw-requires-clause-accepted : goal.withdraw-requires-clause-accepted
withdraw-requires-clause-accepted c =
    ap (λ (w : Work). result_err (withdrawn farm_limits c.args.ticket w)) c.in_ok-draft.ensures.work ∙ c.requires.accepted

pub returns-clause-work : goal.returns-clause-work
returns-clause-work c =
    let effects : Effects = c.in_ok-prepared.prepared.effects.value in
    let base : c.withdraw.new.self.base.now ≡ c.args.state.now = c.in_ok-withdraw.ensures.base ∙ c.in_ok-draft.ensures.base in
    let same : effects ≡ c.withdraw.new.self.effects.value = (λ j. (c.in_ok-prepared.ensures.effects j).value) in
    let h : Held = held c.args.state.now in
    ap (withdrawn farm_limits c.args.ticket) (sym c.in_ok-draft.ensures.work) ∙ c.in_ok-withdraw.ensures.work ∙ ap (λ (w : Work). Ok w) (sym (over c.args.state.now c.withdraw.new.self effects base same))

pub returns-clause-prepared : goal.returns-clause-prepared
returns-clause-prepared c =
    let s : State = c.args.state.now in
    let q : Ledger = ledger (held s) in
    let draft : Draft = c.withdraw.new.self in
    let made : withdrawn farm_limits c.args.ticket (begin_work q) ≡ Ok (work draft) = ap (withdrawn farm_limits c.args.ticket) (sym c.in_ok-draft.ensures.work) ∙ c.in_ok-withdraw.ensures.work in
    prepared s draft c.in_ok-prepared.prepared (c.in_ok-withdraw.ensures.base ∙ c.in_ok-draft.ensures.base) c.in_ok-prepared.ensures.effects c.in_ok-prepared.ensures.empty c.in_ok-prepared.ensures.larger c.in_ok-withdraw.ensures.ready
    (rightful-withdrawn c.args.ticket q (work draft) c.requires.keepable.rightful made c.in_ok-withdraw.ensures.sound)
    (subst (ChangesAsTold q) made (withdrawn-told c.args.ticket q c.requires.keepable.rightful.sound))
