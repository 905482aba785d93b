use Rattle.std.proofs.Common.{refl, ◌≡◌, false, ap, sym, ◌∙◌, subst}
use Rattle.std.specs.List.{list_any}
use Rattle.protocol.specs.Farm.{farm_limits}
use Rattle.protocol.specs.Ledger.{Work, newer_life, sees, is_home, is_older}
use Rattle.leases.specs.Leases.{Table}
use Rattle.effects.specs.declared.effects.Effects.{Effects}
use Rattle.drafts.specs.Idle.{AreIdle}
use Rattle.effects.specs.Keeps.{IsKeepable}
use Rattle.drafts.specs.Shown.{work}
use Rattle.effects.specs.Sound.{IsSound}
use Rattle.drafts.proofs.Drafting.{makes-as, makes-then}
use Rattle.drafts.proofs.HeldUp.{other-home}
use Rattle.drafts.proofs.SoundWords.{sound-sees}
use Rattle.drafts.proofs.Trying.{newer_life-home, newer_life-leases, newer_life-sees}
use Rattle.drafts.proofs.draft.Draft.begin_life.Goals as goal

pub retry_all-requires-clause-sound : goal.retry_all-requires-clause-sound
retry_all-requires-clause-sound c =
    let P : Work → Type 0 = λ w. IsSound w.ledger in
    subst P (sym c.in_ok-see.ensures.work) (sound-sees c.args.node c.args.life (work c.args.self.now) c.requires.sound)

pub retry_all-requires-clause-kept : goal.retry_all-requires-clause-kept
retry_all-requires-clause-kept c = subst IsKeepable (sym c.in_ok-see.ensures.base) c.requires.kept

pub retry-requires-clause-sound : goal.retry-requires-clause-sound
retry-requires-clause-sound c =
    let P : Work → Type 0 = λ w. IsSound w.ledger in
    subst P (sym c.in_ok-see.ensures.work) (sound-sees c.args.node c.args.life (work c.args.self.now) c.requires.sound)

pub retry-requires-clause-kept : goal.retry-requires-clause-kept
retry-requires-clause-kept c = subst IsKeepable (sym c.in_ok-see.ensures.base) c.requires.kept

pub retry-requires-clause-idle : goal.retry-requires-clause-idle
retry-requires-clause-idle c =
    let w : Work = work c.args.self.now in
    let P : Work → Type 0 = λ w. AreIdle c.in_ok-freed.freed.items w.ledger w.ledger.parked in
    let home : c.is_home-was_home.result ≡ is_home c.args.node w.ledger.old_home = c.is_home-was_home.ensures ∙ ap (λ (e : Effects). is_home c.args.node e.change.old_home) c.deref.ensures in
    let other : is_home c.args.node w.ledger.old_home ≡ false = sym home ∙ c.if-was_home.false in
    subst P (sym c.in_ok-see.ensures.work) (c.in_ok-freed.ensures (sees c.args.node c.args.life w).ledger refl (other-home c.args.node w.ledger.old_home other) refl)

pub returns-in_ok-retry_all : goal.returns-in_ok-retry_all
returns-in_ok-retry_all c =
    let w : Work = work c.args.self.now in
    let home : c.is_home-was_home.result ≡ is_home c.args.node w.ledger.old_home = c.is_home-was_home.ensures ∙ ap (λ (e : Effects). is_home c.args.node e.change.old_home) c.deref.ensures in
    makes-as (newer_life farm_limits c.args.node c.args.life) (makes-then c.in_ok-see.ensures c.in_ok-retry_all.ensures)
    (sym (newer_life-home farm_limits c.args.node c.args.life w (sym home ∙ c.if-was_home.true)))

pub returns-in_ok-retry : goal.returns-in_ok-retry
returns-in_ok-retry c =
    let w : Work = work c.args.self.now in
    let had : c.has_lease_below-had_leases.result ≡ list_any (is_older c.args.node c.args.life) w.ledger.live =
    c.has_lease_below-had_leases.ensures ∙ ap (λ (t : Table). list_any (is_older c.args.node c.args.life) t.live) c.table.ensures in
    makes-as (newer_life farm_limits c.args.node c.args.life) (makes-then c.in_ok-see.ensures c.in_ok-retry.ensures)
    (sym (newer_life-leases farm_limits c.args.node c.args.life w (sym had ∙ c.if-had_leases.true)))

pub returns-else-had_leases : goal.returns-else-had_leases
returns-else-had_leases c =
    let w : Work = work c.args.self.now in
    let home : c.is_home-was_home.result ≡ is_home c.args.node w.ledger.old_home = c.is_home-was_home.ensures ∙ ap (λ (e : Effects). is_home c.args.node e.change.old_home) c.deref.ensures in
    let had : c.has_lease_below-had_leases.result ≡ list_any (is_older c.args.node c.args.life) w.ledger.live =
    c.has_lease_below-had_leases.ensures ∙ ap (λ (t : Table). list_any (is_older c.args.node c.args.life) t.live) c.table.ensures in
    makes-as (newer_life farm_limits c.args.node c.args.life) c.in_ok-see.ensures
    (sym (newer_life-sees farm_limits c.args.node c.args.life w (sym had ∙ c.if-had_leases.false) (sym home ∙ c.if-was_home.false)))
