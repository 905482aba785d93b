use Rattle.std.proofs.Common.{◌≡◌, refl, Bool, cond, ap, sym, ◌∙◌, subst, Ok}
use Rattle.std.specs.List.{list_any}
use Rattle.protocol.specs.Farm.{farm_limits}
use Rattle.events.specs.declared.answer.CoordNote.TheVariants as note
use Rattle.protocol.specs.Ledger.{Work, retired, retried, notes, goes, is_at}
use Rattle.leases.specs.Leases.{Table}
use Rattle.drafts.specs.Idle.{AreIdle}
use Rattle.effects.specs.Keeps.{IsKeepable}
use Rattle.drafts.specs.Shown.{work}
use Rattle.effects.specs.Sound.{IsSound}
use Rattle.drafts.proofs.Drafting.{accepts, makes-then}
use Rattle.drafts.proofs.OwnCalls.{retirement, sound-goes, sound-tries}
use Rattle.drafts.proofs.draft.Draft.retire.Goals as goal

pub retry_if-requires-clause-sound : goal.retry_if-requires-clause-sound
retry_if-requires-clause-sound c =
    let P : Work → Type 0 = λ w. IsSound w.ledger in
    subst P (sym c.in_ok-drop_node.ensures.work) (sound-goes c.args.node (work c.args.self.now) c.requires.sound)

pub retry_if-requires-clause-kept : goal.retry_if-requires-clause-kept
retry_if-requires-clause-kept c = subst IsKeepable (sym c.in_ok-drop_node.ensures.base) c.requires.kept

pub retry_if-requires-clause-idle : goal.retry_if-requires-clause-idle
retry_if-requires-clause-idle c =
    let P : Work → Type 0 = λ w. AreIdle c.in_ok-freed.freed.items w.ledger w.ledger.parked in
    subst P (sym c.in_ok-drop_node.ensures.work) (c.in_ok-freed.ensures (goes c.args.node (work c.args.self.now)).ledger refl refl refl)

pub returns : goal.returns
returns c =
    let w : Work = work c.args.self.now in
    let tries : (Bool → Work) = λ b. notes (note.Retired c.args.node) (cond b (retried farm_limits (goes c.args.node w)) (goes c.args.node w)) in
    let had : c.has_lease_of-had_leases.result ≡ list_any (is_at c.args.node) w.ledger.live =
    c.has_lease_of-had_leases.ensures ∙ ap (λ (t : Table). list_any (is_at c.args.node) t.live) c.table.ensures in
    accepts (retired farm_limits c.args.node) c.requires.first.added (makes-then c.in_ok-drop_node.ensures (makes-then c.in_ok-retry_if.ensures c.note.ensures))
    (retirement farm_limits c.args.node w c.requires.accepted ∙ ap (λ (b : Bool). Ok (tries b)) (sym had))
    (sound-tries c.has_lease_of-had_leases.result farm_limits (goes c.args.node w) (sound-goes c.args.node w c.requires.sound))
