use Rattle.std.proofs.Common.{◌≡◌, ◌+◌, ◌<◌, ◌≤◌, length, ◌++◌, ◌∷◌, [], ℕ, Bool, cond, List, drop, drop_of_length-le, get_or, ap, sym, ◌∙◌, subst, arith, append-nil}
use Rattle.farm_base.specs.Wanted.{IsWants}
use Rattle.protocol.specs.Farm.{farm_limits}
use Rattle.protocol.specs.Lists.{In}
use Rattle.protocol.specs.Machine.{Parked}
use Rattle.protocol.specs.Ledger.{Work, try_all, waiting, decision, is_free}
use Rattle.events.specs.declared.answer.Decision.TheVariants.{Wait}
use Rattle.holdings.proofs.PlaceLemmas.{drop-item}
use Rattle.effects.specs.declared.effects.Effects.{Effects}
use Rattle.effects.specs.declared.state.State.{State}
use Rattle.drafts.specs.Idle.{AreIdle}
use Rattle.effects.specs.Keeps.{held}
use Rattle.effects.specs.Spent.{IsNoted}
use Rattle.parked.specs.Over.{Begins, AreRising, later_over, still_at}
use Rattle.parked.specs.Queue.{asks_of}
use Rattle.effects.specs.Shown.{work_of}
use Rattle.drafts.specs.Shown.{work}
use Rattle.drafts.proofs.IdleWords.{Passes, idle-unless, waited-passes}
use Rattle.parked.proofs.OverWords.{begins-zero, begins-later, rising-later, still-more, still-behind}
use Rattle.drafts.proofs.SoundWords.{sound-unless}
use Rattle.drafts.proofs.SpentWords.{noted-tried}
use Rattle.parked.proofs.WaitingWords.{any_ask, noted-append, noted-below, begins-noted, begins-before}
use Rattle.drafts.proofs.TryingAll.{try-next, stay-next}
use Rattle.drafts.proofs.draft.Draft.try_wanting.Goals as goal

pub first_due-place-requires-clause-over : goal.first_due-place-requires-clause-over
first_due-place-requires-clause-over c = begins-zero c.as_slice-rest.result.now

pub first_due-place-requires-clause-noted : goal.first_due-place-requires-clause-noted
first_due-place-requires-clause-noted c p i =
    subst (λ (e : Effects). IsNoted c.in_ok-spent.spent.folders.items (is_free (work_of (held c.args.self.now.base.now) e).ledger) p) c.deref.ensures (c.in_ok-spent.ensures p (c.requires.kept.noted p i))

pub first_due-place-requires-clause-idle : goal.first_due-place-requires-clause-idle
first_due-place-requires-clause-idle c p i =
    let asks : List Parked = asks_of c.args.self.now.base.now.parked in
    c.requires.idle p (subst (λ (os : List ℕ). In p (still_at 0 os asks)) c.as_slice-rest.ensures i)

pub loop-place-init : goal.loop-place-init
loop-place-init c =
    let asks : List Parked = asks_of c.args.self.now.base.now.parked in
    let rest : List ℕ = c.as_slice-rest.result.now in
    let w : Work = work c.args.self.now in
    let n : ℕ = c.first_due-place.result in
    let due = c.first_due-place.ensures in
    let over : Passes farm_limits asks rest w 0 n = waited-passes farm_limits asks rest w 0 n any_ask (omega arith) due.inside due.over (λ j low high. due.passed j any_ask low high) in
    record {
      inside = due.inside;
      below = λ k less. absurd (omega (arith, ap (λ (os : List ℕ). length os) c.new-done.ensures));
      begins = due.over;
      rising = subst AreRising (sym c.as_slice-rest.ensures) c.args.over.now.rising;
      base = λ j. c.args.self.now.base.now;
      added = λ j. c.args.self.now.effects.value.added;
      so_far = sym over.work ∙ ap (λ (os : List ℕ). try_all farm_limits (still_at 0 os asks) w) c.as_slice-rest.ensures;
      stay = λ os begins h.
          ap (λ (xs : List ℕ). still_at 0 (xs ++ os) asks) c.new-done.ensures ∙ over.stay os begins h
          ∙ ap (λ (xs : List ℕ). waiting farm_limits (still_at 0 xs asks) w) c.as_slice-rest.ensures;
      sound = c.requires.sound;
      noted = λ p i. subst (λ (e : Effects). IsNoted c.in_ok-spent.spent.folders.items (is_free (work_of (held c.args.self.now.base.now) e).ledger) p) c.deref.ensures (c.in_ok-spent.ensures p (c.requires.kept.noted p i));
      idle = λ p i. due.idle p (still-more asks rest 0 n p any_ask (omega arith) due.inside due.over i);
    }

pub first_due-place-requires-in-loop-place-clause-inside : goal.first_due-place-requires-in-loop-place-clause-inside
first_due-place-requires-in-loop-place-clause-inside c =
    let at : asks_of c.try_unless.new.self.base.now.parked ≡ asks_of c.args.self.now.base.now.parked = ap (λ (t : State). asks_of t.parked) (c.in_ok-over_now.ensures.work.base ∙ c.loop-place.invariant.base) in
    let len : length c.waiting-asks.result.now ≡ length (asks_of c.args.self.now.base.now.parked) = ap (λ (ps : List Parked). length ps) c.waiting-asks.ensures in
    let more = c.loop-place-test.true in
    subst (λ (ps : List Parked). c.loop-place.place + 1 ≤ length ps) (sym at) (omega arith)

pub first_due-place-requires-in-loop-place-clause-over : goal.first_due-place-requires-in-loop-place-clause-over
first_due-place-requires-in-loop-place-clause-over c =
    subst (Begins (c.loop-place.place + 1)) (sym c.split_over-is_over.ensures.rest) (begins-later c.loop-place.place c.loop-place.rest.now c.loop-place.invariant.begins c.loop-place.invariant.rising)

pub first_due-place-requires-in-loop-place-clause-noted : goal.first_due-place-requires-in-loop-place-clause-noted
first_due-place-requires-in-loop-place-clause-noted c q j =
    let at : asks_of c.try_unless.new.self.base.now.parked ≡ asks_of c.args.self.now.base.now.parked = ap (λ (t : State). asks_of t.parked) (c.in_ok-over_now.ensures.work.base ∙ c.loop-place.invariant.base) in
    let p : Parked = c.index-asks-place.result in
    let w : Work = work c.loop-place.self in
    let w' : Work = work c.try_unless.new.self in
    noted-tried c.loop-place.spent.folders.items c.note_wants.new.spent.folders.items farm_limits p c.split_over-is_over.result.0 w w' q c.in_ok-over_now.ensures.work.work c.note_wants.ensures.kept
    (λ v i spent. c.in_ok-note_wants.ensures.noted v (subst (In v) (sym c.as_slice.ensures.same) i) spent)
    (c.loop-place.invariant.noted q (subst (λ (ps : List Parked). In q ps) at j))

pub first_due-place-requires-in-loop-place-clause-idle : goal.first_due-place-requires-in-loop-place-clause-idle
first_due-place-requires-in-loop-place-clause-idle c q j =
    let at : asks_of c.try_unless.new.self.base.now.parked ≡ asks_of c.args.self.now.base.now.parked = ap (λ (t : State). asks_of t.parked) (c.in_ok-over_now.ensures.work.base ∙ c.loop-place.invariant.base) in
    let asks : List Parked = asks_of c.args.self.now.base.now.parked in
    let n : ℕ = c.loop-place.place in
    let over : List ℕ = c.loop-place.rest.now in
    let p : Parked = c.index-asks-place.result in
    let w : Work = work c.loop-place.self in
    let w' : Work = work c.try_unless.new.self in
    let len : length c.waiting-asks.result.now ≡ length asks = ap (λ (ps : List Parked). length ps) c.waiting-asks.ensures in
    let more = c.loop-place-test.true in
    let first : drop n asks ≡ get_or asks n p ∷ drop (n + 1) asks = drop-item asks n p (omega arith) in
    let among : In q (still_at n over (drop n asks)) =
    subst (λ (ps : List Parked). In q (still_at n over ps)) (sym first) (still-behind n over q (get_or asks n p) (drop (n + 1) asks) (subst (λ (os : List ℕ). In q (still_at (n + 1) os (drop (n + 1) asks))) c.split_over-is_over.ensures.rest
    (subst (λ (ps : List Parked). In q (still_at (n + 1) c.split_over-is_over.result.1.now (drop (n + 1) ps))) at j))) in
    idle-unless farm_limits c.loop-place.freed.items p c.split_over-is_over.result.0 w w' (still_at n over (drop n asks)) c.in_ok-over_now.ensures.work.work c.loop-place.invariant.idle q among

pub loop-place-preserved : goal.loop-place-preserved
loop-place-preserved c =
    let asks : List Parked = asks_of c.args.self.now.base.now.parked in
    let n : ℕ = c.loop-place.place in
    let over : List ℕ = c.loop-place.rest.now in
    let later : List ℕ = c.split_over-is_over.result.1.now in
    let at : asks_of c.try_unless.new.self.base.now.parked ≡ asks_of c.args.self.now.base.now.parked = ap (λ (t : State). asks_of t.parked) (c.in_ok-over_now.ensures.work.base ∙ c.loop-place.invariant.base) in
    let due = c.first_due-place-in-loop-place.ensures in
    let next : ℕ = c.first_due-place-in-loop-place.result in
    let p : Parked = c.index-asks-place.result in
    let rest : List Parked = drop (n + 1) asks in
    let w : Work = work c.loop-place.self in
    let w' : Work = work c.try_unless.new.self in
    let b : Bool = c.split_over-is_over.result.0 in
    let o : Bool = c.in_ok-over_now.over_now in
    let done : List ℕ = c.loop-place.done.places.items in
    let i = c.loop-place.invariant in
    let mark = c.split_over-is_over.ensures.first in
    let behind : later ≡ later_over n over = c.split_over-is_over.ensures.rest in
    let len : length c.waiting-asks.result.now ≡ length asks = ap (λ (ps : List Parked). length ps) c.waiting-asks.ensures in
    let more = c.loop-place-test.true in
    let inside : n < length asks = omega arith in
    let forward = due.forward in
    let item : get_or asks n p ≡ p = ap (λ (ps : List Parked). get_or ps n p) (sym c.waiting-asks.ensures) ∙ sym c.index-asks-place.is in
    let first : drop n asks ≡ p ∷ rest = drop-item asks n p inside ∙ ap (λ (x : Parked). x ∷ rest) item in
    let tries = c.in_ok-over_now.ensures.work in
    let due_inside : next ≤ length asks = subst (λ (ps : List Parked). next ≤ length ps) at due.inside in
    let noted : c.note_if.new.self.places.items ≡ cond o (done ++ n ∷ []) done = c.in_ok-note_if.ensures in
    let passes : Passes farm_limits asks later w' (n + 1) next = waited-passes farm_limits asks later w' (n + 1) next any_ask forward due_inside due.over
    (λ j low high. subst (λ (ps : List Parked). decision farm_limits w'.ledger (get_or ps j any_ask) ≡ Wait) at (due.passed j any_ask low high)) in
    record {
      inside = due_inside;
      below = λ k less. (let low = noted-below o n done c.note_if.new.self.places.items k noted i.below less in omega arith);
      begins = due.over;
      rising = subst AreRising (sym behind) (rising-later n over i.rising);
      base = tries.base ∙ i.base;
      added = tries.added ∙ i.added;
      so_far = sym passes.work ∙ ap (λ (os : List ℕ). try_all farm_limits (still_at (n + 1) os rest) w') behind ∙ try-next farm_limits p n over rest w w' b mark tries.work
          ∙ ap (λ (ps : List Parked). try_all farm_limits (still_at n over ps) w) (sym first) ∙ i.so_far;
      stay = λ os begins h.
          (let before = begins-before (n + 1) next os forward begins in
          let one = stay-next farm_limits p n over os rest w w' b o mark tries.work c.in_ok-over_now.ensures.over before
          (passes.stay os begins h ∙ ap (λ (xs : List ℕ). waiting farm_limits (still_at (n + 1) xs rest) w') behind) in
          ap (λ (xs : List ℕ). still_at 0 xs asks) (noted-append o n done c.note_if.new.self.places.items os noted)
          ∙ i.stay (cond o (n ∷ os) os) (begins-noted o n os before)
          (ap (still_at n (cond o (n ∷ os) os)) first ∙ one ∙ ap (λ (ps : List Parked). waiting farm_limits (still_at n over ps) w) (sym first)));
      sound = sound-unless farm_limits p b w w' tries.work i.sound (subst (λ (x : Parked). IsWants x.wants) item (c.requires.kept.rightful.sound.asks n p inside));
      noted = λ q j. noted-tried c.loop-place.spent.folders.items c.note_wants.new.spent.folders.items farm_limits p b w w' q tries.work c.note_wants.ensures.kept
          (λ v k spent. c.in_ok-note_wants.ensures.noted v (subst (In v) (sym c.as_slice.ensures.same) k) spent) (i.noted q j);
      idle = λ q j. subst (λ (ps : List Parked). AreIdle c.first_due-place-in-loop-place.new.freed.items w'.ledger (still_at (n + 1) later (drop (n + 1) ps))) at due.idle q (still-more asks later (n + 1) next q any_ask forward due_inside due.over j);
    }

pub returns-clause-work : goal.returns-clause-work
returns-clause-work c =
    let asks : List Parked = asks_of c.args.self.now.base.now.parked in
    let n : ℕ = c.loop-place.place in
    let w : Work = work c.loop-place.self in
    let len : length c.waiting-asks.result.now ≡ length asks = ap (λ (ps : List Parked). length ps) c.waiting-asks.ensures in
    let past = c.loop-place-test.false in
    let none : drop n asks ≡ [] = drop_of_length-le asks (omega arith) in
    record {
      base = c.loop-place.invariant.base;
      added = c.loop-place.invariant.added;
      work = sym (ap (λ (ps : List Parked). try_all farm_limits (still_at n c.loop-place.rest.now ps) w) none) ∙ c.loop-place.invariant.so_far;
    }

pub returns-clause-stay : goal.returns-clause-stay
returns-clause-stay c =
    let asks : List Parked = asks_of c.args.self.now.base.now.parked in
    let n : ℕ = c.loop-place.place in
    let w : Work = work c.loop-place.self in
    let len : length c.waiting-asks.result.now ≡ length asks = ap (λ (ps : List Parked). length ps) c.waiting-asks.ensures in
    let past = c.loop-place-test.false in
    let none : drop n asks ≡ [] = drop_of_length-le asks (omega arith) in
    ap (λ (os : List ℕ). still_at 0 os asks) (sym (append-nil c.loop-place.done.places.items))
    ∙ c.loop-place.invariant.stay [] tt (ap (still_at n []) none ∙ sym (ap (λ (ps : List Parked). waiting farm_limits (still_at n c.loop-place.rest.now ps) w) none))
