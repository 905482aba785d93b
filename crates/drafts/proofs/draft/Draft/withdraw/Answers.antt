use Rattle.std.proofs.Common.{refl, ap, sym, ◌∙◌, subst, Ok}
use Rattle.protocol.specs.Farm.{farm_limits}
use Rattle.events.specs.declared.answer.CoordNote.TheVariants as note
use Rattle.protocol.specs.Ledger.{Work, retried, notes, withdrawn}
use Rattle.drafts.specs.Idle.{AreIdle}
use Rattle.effects.specs.Keeps.{IsKeepable}
use Rattle.drafts.specs.Shown.{work, withdraws_under}
use Rattle.effects.specs.Sound.{IsSound}
use Rattle.drafts.proofs.Drafting.{accepts, makes-then}
use Rattle.drafts.proofs.OwnCalls.{withdrawal, withdraws-is, sound-withdraws}
use Rattle.drafts.proofs.SoundWords.{sound-retried}
use Rattle.drafts.proofs.draft.Draft.withdraw.Goals as goal

pub retry-requires-clause-sound : goal.retry-requires-clause-sound
retry-requires-clause-sound c =
    let w : Work = work c.args.self.now in
    let r = withdrawal farm_limits c.args.ticket w c.requires.accepted in
    let P : Work → Type 0 = λ w. IsSound w.ledger in
    subst P (sym (c.in_ok-take_back.ensures.work ∙ withdraws-is c.args.ticket w r.lease r.found)) (sound-withdraws r.lease w c.requires.sound)

pub retry-requires-clause-kept : goal.retry-requires-clause-kept
retry-requires-clause-kept c = subst IsKeepable (sym c.in_ok-take_back.ensures.base) c.requires.kept

pub retry-requires-clause-idle : goal.retry-requires-clause-idle
retry-requires-clause-idle c =
    let P : Work → Type 0 = λ w. AreIdle c.in_ok-freed.freed.items w.ledger w.ledger.parked in
    subst P (sym c.in_ok-take_back.ensures.work) (c.in_ok-freed.ensures (withdraws_under c.args.ticket (work c.args.self.now)).ledger refl refl refl)

pub returns : goal.returns
returns c =
    let w : Work = work c.args.self.now in
    let r = withdrawal farm_limits c.args.ticket w c.requires.accepted in
    let taken = sym (withdraws-is c.args.ticket w r.lease r.found) in
    let P : Work → Type 0 = λ w. IsSound w.ledger in
    accepts (withdrawn farm_limits c.args.ticket) c.requires.first.added (makes-then c.in_ok-take_back.ensures (makes-then c.in_ok-retry.ensures c.note.ensures))
    (r.work ∙ ap (λ (x : Work). Ok (notes (note.Withdrawn c.args.ticket) (retried farm_limits x))) taken)
    (sound-retried farm_limits (withdraws_under c.args.ticket w) (subst P taken (sound-withdraws r.lease w c.requires.sound)))
