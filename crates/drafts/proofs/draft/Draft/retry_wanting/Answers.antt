use Rattle.std.proofs.Common.{◌≡◌, ◌++◌, [], ℕ, List, refl, ap, sym, ◌∙◌, subst, append-nil}
use Rattle.protocol.specs.Farm.{farm_limits}
use Rattle.protocol.specs.Machine.{Parked}
use Rattle.protocol.specs.Ledger.{Work, parks, try_all, waiting}
use Rattle.effects.specs.declared.state.State.{State}
use Rattle.drafts.specs.Idle.{AreIdle}
use Rattle.effects.specs.Keeps.{IsKeepable}
use Rattle.drafts.specs.Shown.{work}
use Rattle.effects.specs.Sound.{IsSound}
use Rattle.parked.specs.Over.{still_waiting}
use Rattle.parked.specs.Queue.{asks_of}
use Rattle.parked.specs.Waiting.{waits_after}
use Rattle.parked.specs.declared.parked_change.ParkedChange.{ParkedChange}
use Rattle.drafts.proofs.SoundWords.{sound-parks}
use Rattle.drafts.proofs.TryingAll.{retried-split}
use Rattle.drafts.proofs.draft.Draft.retry_wanting.Goals as goal

pub try_wanting-requires-clause-sound : goal.try_wanting-requires-clause-sound
try_wanting-requires-clause-sound c =
    let P : Work → Type 0 = λ w. IsSound w.ledger in
    subst P (sym c.take_parked-before.ensures.work.work) (sound-parks (asks_of c.args.self.now.base.now.parked) (work c.args.self.now) c.requires.sound c.requires.kept.rightful.sound.asks)

pub try_wanting-requires-clause-kept : goal.try_wanting-requires-clause-kept
try_wanting-requires-clause-kept c = subst IsKeepable (sym c.take_parked-before.ensures.work.base) c.requires.kept

-- the asks that wait are those that aren't over
none_since : (parked : List Parked) (d : ParkedChange) → d.since.items ≡ [] → waits_after parked d ≡ still_waiting d.over.places.items parked
none_since parked d none = ap (λ (ps : List Parked). still_waiting d.over.places.items parked ++ ps) none ∙ append-nil (still_waiting d.over.places.items parked)

pub try_wanting-requires-clause-idle : goal.try_wanting-requires-clause-idle
try_wanting-requires-clause-idle c =
    let s : State = c.args.self.now.base.now in
    let was : ParkedChange = c.args.self.now.effects.value.change.parked in
    let before : ParkedChange = c.take_parked-before.result in
    let w : Work = work c.args.self.now in
    let waits : waits_after (asks_of s.parked) was ≡ still_waiting before.over.places.items (asks_of c.take_parked-before.new.self.base.now.parked) =
    none_since (asks_of s.parked) was c.requires.since
    ∙ ap (λ (d : ParkedChange). still_waiting d.over.places.items (asks_of s.parked)) (sym c.take_parked-before.ensures.parked)
    ∙ ap (λ (t : State). still_waiting before.over.places.items (asks_of t.parked)) (sym c.take_parked-before.ensures.work.base) in
    subst (λ (v : Work). AreIdle c.args.freed.items v.ledger (still_waiting before.over.places.items (asks_of c.take_parked-before.new.self.base.now.parked))) (sym c.take_parked-before.ensures.work.work)
    (subst (AreIdle c.args.freed.items w.ledger) waits c.requires.idle)

pub returns : goal.returns
returns c =
    let s : State = c.args.self.now.base.now in
    let asks : List Parked = asks_of s.parked in
    let was : ParkedChange = c.args.self.now.effects.value.change.parked in
    let w : Work = work c.args.self.now in
    let taken = c.take_parked-before.ensures.work in
    let tries = c.in_ok-over.ensures.work in
    let put = c.put_parked.ensures in
    let mid : Work = work c.try_wanting.new.self in
    let over : List ℕ = c.in_ok-over.over.places.items in
    let xs : List Parked = still_waiting was.over.places.items asks in
    let there : List Parked = asks_of c.take_parked-before.new.self.base.now.parked in
    let xs_is : still_waiting c.take_parked-before.result.over.places.items there ≡ xs =
    ap (λ (d : ParkedChange). still_waiting d.over.places.items there) c.take_parked-before.ensures.parked ∙ ap (λ (t : State). still_waiting was.over.places.items (asks_of t.parked)) taken.base in
    let base : c.try_wanting.new.self.base.now ≡ s = tries.base ∙ taken.base in
    let d : ParkedChange = record { over = c.in_ok-over.over; since = c.new-since.result } in
    record {
      base = put.base ∙ base;
      added = put.added ∙ tries.added ∙ taken.added;
      work = put.work ∙ ap (λ (t : State). parks (waits_after (asks_of t.parked) d) mid) base
          ∙ retried-split farm_limits w mid mid xs [] asks (still_waiting over asks) c.new-since.result.items
          (ap (λ (ps : List Parked). xs ++ ps) c.requires.since)
          (tries.work ∙ ap (λ (v : Work). try_all farm_limits (still_waiting c.take_parked-before.result.over.places.items there) v) taken.work ∙ ap (λ (ps : List Parked). try_all farm_limits ps (parks asks w)) xs_is)
          (ap (λ (t : State). still_waiting over (asks_of t.parked)) (sym taken.base) ∙ c.in_ok-over.ensures.stay
          ∙ ap (λ (v : Work). waiting farm_limits (still_waiting c.take_parked-before.result.over.places.items there) v) taken.work ∙ ap (λ (ps : List Parked). waiting farm_limits ps (parks asks w)) xs_is)
          refl c.new-since.ensures.items;
    }
