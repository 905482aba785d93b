use Rattle.std.proofs.Common.{◌≡◌, Ok, ap, sym, ◌∙◌, subst}
use Rattle.std.specs.Result.{result_err}
use Rattle.protocol.specs.Farm.{farm_limits}
use Rattle.protocol.specs.Ledger.{Ledger, Work, begin_work, pruned}
use Rattle.drafts.specs.declared.draft.Draft.{Draft}
use Rattle.effects.specs.declared.effects.Effects.{Effects}
use Rattle.effects.specs.declared.state.State.{State}
use Rattle.effects.specs.Held.{Held, ledger}
use Rattle.effects.specs.Keeps.{held}
use Rattle.ledger.specs.Prepared.{ChangesAsTold}
use Rattle.drafts.specs.Shown.{work}
use Rattle.effects.specs.Sound.{IsSound}
use Rattle.drafts.proofs.Drafting.{over}
use Rattle.coordinator.proofs.Drafted.{prepared}
use Rattle.coordinator.proofs.Rightful.{rightful-pruned}
use Rattle.coordinator.proofs.Recording.{pruned-told}
use Rattle.coordinator.proofs.preparing.pruning.Goals as goal

pub prune-requires-clause-sound : goal.prune-requires-clause-sound
prune-requires-clause-sound c =
    let P : Work → Type 0 = λ w. IsSound w.ledger in
    subst P (sym c.in_ok-draft.ensures.work) c.requires.keepable.rightful.sound

pub prune-requires-clause-accepted : goal.prune-requires-clause-accepted
prune-requires-clause-accepted c =
    ap (λ (w : Work). result_err (pruned farm_limits c.args.slot.now w)) c.in_ok-draft.ensures.work ∙ c.requires.accepted

pub returns-clause-work : goal.returns-clause-work
returns-clause-work c =
    let effects : Effects = c.in_ok-prepared.prepared.effects.value in
    let base : c.prune.new.self.base.now ≡ c.args.state.now = c.in_ok-prune.ensures.base ∙ c.in_ok-draft.ensures.base in
    let same : effects ≡ c.prune.new.self.effects.value = (λ j. (c.in_ok-prepared.ensures.effects j).value) in
    let h : Held = held c.args.state.now in
    ap (pruned farm_limits c.args.slot.now) (sym c.in_ok-draft.ensures.work) ∙ c.in_ok-prune.ensures.work ∙ ap (λ (w : Work). Ok w) (sym (over c.args.state.now c.prune.new.self effects base same))

pub returns-clause-prepared : goal.returns-clause-prepared
returns-clause-prepared c =
    let s : State = c.args.state.now in
    let q : Ledger = ledger (held s) in
    let draft : Draft = c.prune.new.self in
    let made : pruned farm_limits c.args.slot.now (begin_work q) ≡ Ok (work draft) = ap (pruned farm_limits c.args.slot.now) (sym c.in_ok-draft.ensures.work) ∙ c.in_ok-prune.ensures.work in
    prepared s draft c.in_ok-prepared.prepared (c.in_ok-prune.ensures.base ∙ c.in_ok-draft.ensures.base) c.in_ok-prepared.ensures.effects c.in_ok-prepared.ensures.empty c.in_ok-prepared.ensures.larger c.in_ok-prune.ensures.ready
    (rightful-pruned c.args.slot.now q (work draft) c.requires.keepable.rightful made c.in_ok-prune.ensures.sound)
    (subst (ChangesAsTold q) made (pruned-told c.args.slot.now q))
