use Rattle.std.proofs.Common.{◌≡◌, ◌+◌, ◌<◌, length, ◌++◌, ◌∷◌, [], ℕ, Bool, cond, List, drop, drop_of_length-le, get_or, ap, sym, ◌∙◌, subst, arith, append-nil}
use Rattle.farm_base.specs.Wanted.{IsWants}
use Rattle.protocol.specs.Farm.{farm_limits}
use Rattle.protocol.specs.Machine.{Parked}
use Rattle.protocol.specs.Ledger.{Work, try_all, waiting}
use Rattle.holdings.proofs.PlaceLemmas.{drop-item}
use Rattle.parked.specs.Over.{still_at}
use Rattle.drafts.specs.Shown.{work}
use Rattle.drafts.proofs.SoundWords.{sound-unless}
use Rattle.parked.proofs.WaitingWords.{noted-append, noted-below, begins-noted}
use Rattle.drafts.proofs.TryingAll.{try-next, stay-next}
use Rattle.drafts.proofs.draft.Draft.try_asks.Goals as goal

pub loop-place-preserved : goal.loop-place-preserved
loop-place-preserved c =
    let items : List Parked = c.args.asks.now in
    let i = c.loop-place.place in
    let inside : i < length items = c.loop-place-test.true in
    let p : Parked = c.index-asks-place.result in
    let w : Work = work c.loop-place.self in
    let w' : Work = work c.try_unless.new.self in
    let b : Bool = c.split_over-is_over.result.0 in
    let o : Bool = c.in_ok-over_now.over_now in
    let done : List ℕ = c.loop-place.done.places.items in
    let item : get_or items i p ≡ p = sym c.index-asks-place.is in
    let first : drop i items ≡ p ∷ drop (i + 1) items = drop-item items i p inside ∙ ap (λ (x : Parked). x ∷ drop (i + 1) items) item in
    let mark = c.split_over-is_over.ensures.first in
    let rest = c.split_over-is_over.ensures.rest in
    let noted : c.note_if.new.self.places.items ≡ cond o (done ++ i ∷ []) done = c.in_ok-note_if.ensures in
    let tries = c.in_ok-over_now.ensures.work in
    record {
      inside = omega arith;
      below = λ k less. noted-below o i done c.note_if.new.self.places.items k noted c.loop-place.invariant.below less;
      base = tries.base ∙ c.loop-place.invariant.base;
      added = tries.added ∙ c.loop-place.invariant.added;
      so_far = ap (λ (os : List ℕ). try_all farm_limits (still_at (i + 1) os (drop (i + 1) items)) w') rest
          ∙ try-next farm_limits p i c.loop-place.rest.now (drop (i + 1) items) w w' b mark tries.work
          ∙ ap (λ (ps : List Parked). try_all farm_limits (still_at i c.loop-place.rest.now ps) w) (sym first) ∙ c.loop-place.invariant.so_far;
      stay = λ os begins h.
          (let one = stay-next farm_limits p i c.loop-place.rest.now os (drop (i + 1) items) w w' b o mark tries.work c.in_ok-over_now.ensures.over begins
          (h ∙ ap (λ (xs : List ℕ). waiting farm_limits (still_at (i + 1) xs (drop (i + 1) items)) w') rest) in
          ap (λ (xs : List ℕ). still_at 0 xs items) (noted-append o i done c.note_if.new.self.places.items os noted)
          ∙ c.loop-place.invariant.stay (cond o (i ∷ os) os) (begins-noted o i os begins)
          (ap (still_at i (cond o (i ∷ os) os)) first ∙ one ∙ ap (λ (ps : List Parked). waiting farm_limits (still_at i c.loop-place.rest.now ps) w) (sym first)));
      sound = sound-unless farm_limits p b w w' tries.work c.loop-place.invariant.sound (subst (λ (x : Parked). IsWants x.wants) item (c.requires.wants i p inside));
    }

pub returns-clause-work : goal.returns-clause-work
returns-clause-work c =
    let none : drop c.loop-place.place c.args.asks.now ≡ [] = drop_of_length-le c.args.asks.now c.loop-place-test.false in
    record {
      base = c.loop-place.invariant.base;
      added = c.loop-place.invariant.added;
      work = ap (λ (ps : List Parked). try_all farm_limits (still_at c.loop-place.place c.loop-place.rest.now ps) (work c.loop-place.self)) (sym none) ∙ c.loop-place.invariant.so_far;
    }

pub returns-clause-stay : goal.returns-clause-stay
returns-clause-stay c =
    let none : drop c.loop-place.place c.args.asks.now ≡ [] = drop_of_length-le c.args.asks.now c.loop-place-test.false in
    let waits : (List Parked → List Parked) = λ ps. waiting farm_limits (still_at c.loop-place.place c.loop-place.rest.now ps) (work c.loop-place.self) in
    ap (λ (xs : List ℕ). still_at 0 xs c.args.asks.now) (sym (append-nil c.loop-place.done.places.items))
    ∙ c.loop-place.invariant.stay [] tt (ap (still_at c.loop-place.place []) none ∙ ap waits (sym none))
