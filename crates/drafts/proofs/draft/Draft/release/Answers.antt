use Rattle.std.proofs.Common.{◌≡◌, true, refl, ap, sym, ◌∙◌, subst}
use Rattle.protocol.specs.Farm.{farm_limits}
use Rattle.protocol.specs.Ledger.{Work, released, retried, notes, lease_under, may_release}
use Rattle.events.specs.declared.answer.CoordNote.TheVariants as note
use Rattle.drafts.specs.Idle.{AreIdle}
use Rattle.effects.specs.Keeps.{IsKeepable}
use Rattle.drafts.specs.Shown.{work, ended}
use Rattle.effects.specs.Sound.{IsSound}
use Rattle.drafts.proofs.Drafting.{makes-as, makes-then}
use Rattle.drafts.proofs.Trying.{may_release-some, released-is, ended-is}
use Rattle.drafts.proofs.SoundWords.{sound-ends}
use Rattle.drafts.proofs.draft.Draft.release.Goals as goal

pub retry-requires-clause-sound : goal.retry-requires-clause-sound
retry-requires-clause-sound c =
    let w : Work = work c.args.self.now in
    let r = may_release-some c.args.node c.args.life (lease_under w.ledger.live c.args.ticket) (sym c.may_release.ensures ∙ c.if-not-may_release.false) in
    let P : Work → Type 0 = λ w. IsSound w.ledger in
    subst P (sym (c.in_ok-end.ensures.work ∙ ended-is c.args.ticket w r.0 r.1)) (sound-ends r.0 w c.requires.sound)

pub retry-requires-clause-kept : goal.retry-requires-clause-kept
retry-requires-clause-kept c = subst IsKeepable (sym c.in_ok-end.ensures.base) c.requires.kept

pub retry-requires-clause-idle : goal.retry-requires-clause-idle
retry-requires-clause-idle c =
    let P : Work → Type 0 = λ w. AreIdle c.in_ok-freed.freed.items w.ledger w.ledger.parked in
    subst P (sym c.in_ok-end.ensures.work) (c.in_ok-freed.ensures (ended c.args.ticket (work c.args.self.now)).ledger refl refl refl)

pub returns : goal.returns
returns c =
    let w : Work = work c.args.self.now in
    let lease = lease_under w.ledger.live c.args.ticket in
    let may : may_release c.args.node c.args.life lease ≡ true = sym c.may_release.ensures ∙ c.if-not-may_release.false in
    let r = may_release-some c.args.node c.args.life lease may in
    makes-as (λ w. released farm_limits (may_release c.args.node c.args.life (lease_under w.ledger.live c.args.ticket)) c.args.ticket (lease_under w.ledger.live c.args.ticket) w)
    (makes-then c.in_ok-end.ensures (makes-then c.in_ok-retry.ensures c.note.ensures))
    (ap (λ (x : Work). notes (note.Released c.args.ticket) (retried farm_limits x)) (ended-is c.args.ticket w r.0 r.1)
    ∙ sym (released-is farm_limits (may_release c.args.node c.args.life lease) c.args.ticket lease r.0 w may r.1))
