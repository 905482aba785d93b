use Rattle.std.proofs.Common.{◌≡◌, ◌++◌, [], ℕ, List, length, refl, ap, sym, ◌∙◌, subst}
use Rattle.std.proofs.Math.Seq.{drop-append_seam}
use Rattle.std.proofs.lemmas.List.Elements.{All-drop}
use Rattle.std.specs.Prelude.{All}
use Rattle.farm_base.specs.Wanted.{IsWants}
use Rattle.protocol.specs.Farm.{farm_limits}
use Rattle.protocol.specs.Machine.{Parked}
use Rattle.protocol.specs.Ledger.{Work, parks, try_all, waiting}
use Rattle.effects.specs.declared.state.State.{State}
use Rattle.drafts.specs.Shown.{work}
use Rattle.effects.specs.Sound.{IsSound}
use Rattle.parked.specs.Over.{still_waiting}
use Rattle.parked.specs.Waiting.{waits_after}
use Rattle.parked.specs.Queue.{asks_of}
use Rattle.parked.specs.declared.parked_change.ParkedChange.{ParkedChange}
use Rattle.drafts.proofs.SoundWords.{sound-parks}
use Rattle.parked.proofs.WaitingWords.{still-none}
use Rattle.drafts.proofs.TryingAll.{retried-split}
use Rattle.drafts.proofs.draft.Draft.retry_all.Goals as goal

pub try_asks-requires-clause-sound : goal.try_asks-requires-clause-sound
try_asks-requires-clause-sound c =
    let P : Work → Type 0 = λ w. IsSound w.ledger in
    subst P (sym c.take_parked-over.ensures.work.work) (sound-parks (asks_of c.args.self.now.base.now.parked) (work c.args.self.now) c.requires.sound c.requires.kept.rightful.sound.asks)

pub try_asks-requires-clause-wants : goal.try_asks-requires-clause-wants
try_asks-requires-clause-wants c = subst (All (λ p. IsWants p.wants)) (sym c.waiting-asks.ensures) c.requires.kept.rightful.sound.asks

pub try_asks-requires-2-clause-wants : goal.try_asks-requires-2-clause-wants
try_asks-requires-2-clause-wants c =
    let was : ParkedChange = c.args.self.now.effects.value.change.parked in
    let xs : List Parked = still_waiting was.over.places.items (asks_of c.args.self.now.base.now.parked) in
    let ys : List Parked = was.since.items in
    let P : Parked → Type 0 = λ p. IsWants p.wants in
    let since : All P ys = subst (All P) (drop-append_seam xs ys) (All-drop P (length xs) (xs ++ ys) c.requires.sound.asks) in
    subst (All P) (sym (c.as_slice-2.ensures.value ∙ ap (λ (d : ParkedChange). d.since.items) c.take_parked-over.ensures.parked)) since

pub returns : goal.returns
returns c =
    let asks : List Parked = asks_of c.args.self.now.base.now.parked in
    let was : ParkedChange = c.args.self.now.effects.value.change.parked in
    let w : Work = work c.args.self.now in
    let mid : Work = work c.try_asks.new.self in
    let taken = c.take_parked-over.ensures.work in
    let first = c.in_ok-over.ensures.work in
    let second = c.in_ok-over_since.ensures.work in
    let put = c.put_parked.ensures in
    let xs : List Parked = still_waiting was.over.places.items asks in
    let ys : List Parked = was.since.items in
    let xs_is : still_waiting c.as_slice.result.now c.waiting-asks.result.now ≡ xs =
    ap (λ (ms : List ℕ). still_waiting ms c.waiting-asks.result.now) (c.as_slice.ensures ∙ ap (λ (d : ParkedChange). d.over.places.items) c.take_parked-over.ensures.parked)
    ∙ ap (still_waiting was.over.places.items) c.waiting-asks.ensures in
    let ys_is : still_waiting [] c.as_slice-2.result.now ≡ ys =
    still-none 0 c.as_slice-2.result.now ∙ c.as_slice-2.ensures.value ∙ ap (λ (d : ParkedChange). d.since.items) c.take_parked-over.ensures.parked in
    let base : c.try_asks-2.new.self.base.now ≡ c.args.self.now.base.now = second.base ∙ first.base ∙ taken.base in
    let others : List Parked = asks in
    let d : ParkedChange = record { over = c.in_ok-over.over; since = c.without-since.result } in
    record {
      base = put.base ∙ base;
      added = put.added ∙ second.added ∙ first.added ∙ taken.added;
      work = put.work ∙ ap (λ (s : State). parks (waits_after (asks_of s.parked) d) (work c.try_asks-2.new.self)) base
          ∙ retried-split farm_limits w mid (work c.try_asks-2.new.self) xs ys others
          (still_waiting c.in_ok-over.over.places.items asks) c.without-since.result.items refl
          (first.work ∙ ap (λ (v : Work). try_all farm_limits (still_waiting c.as_slice.result.now c.waiting-asks.result.now) v) taken.work ∙ ap (λ (ps : List Parked). try_all farm_limits ps (parks others w)) xs_is)
          (ap (still_waiting c.in_ok-over.over.places.items) (sym c.waiting-asks.ensures) ∙ c.in_ok-over.ensures.stay
          ∙ ap (λ (v : Work). waiting farm_limits (still_waiting c.as_slice.result.now c.waiting-asks.result.now) v) taken.work ∙ ap (λ (ps : List Parked). waiting farm_limits ps (parks others w)) xs_is)
          (second.work ∙ ap (λ (ps : List Parked). try_all farm_limits ps mid) ys_is)
          (c.without-since.ensures
          ∙ ap (still_waiting c.in_ok-over_since.over_since.places.items) (sym c.as_slice-2.ensures.value)
          ∙ c.in_ok-over_since.ensures.stay ∙ ap (λ (ps : List Parked). waiting farm_limits ps mid) ys_is);
    }
