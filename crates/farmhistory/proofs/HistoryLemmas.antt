-- What a board keeps, with one event more.
use Rattle.std.proofs.Common.{◌≡◌, ℕ, ◌+◌, ◌<◌, ◌≤◌, zero, suc, Bool, true, false, ◌||◌, eqb, leb, List, [], ◌∷◌, ◌++◌, length, Option, Some, Result, Ok, Err, refl, ap, sym, ◌∙◌, subst, arith, inl, inr, length-append}
use Rattle.std.specs.List.{list_any}
use Rattle.std.proofs.lemmas.Bool.{cases_eq}
use Rattle.std.proofs.lemmas.Bool.Decides.{leb_tells, eqb_tells}
use Rattle.std.proofs.lemmas.Grind.{common_steps}
use Rattle.std.proofs.lemmas.List.Folds.{list_any-append}
use Rattle.names.specs.Contents.{content_digest}
use Rattle.names.specs.declared.limits.TheConstants.{EVENTS}
use Rattle.protocol.specs.Farm.{farm_limits}
use Rattle.protocol.specs.Replay.{Farm, Turn, opening, step, run}
use Rattle.events.specs.declared.event.Event.{Event}
use Rattle.events.specs.declared.answer.EventRefusal.{EventRefusal}
use Rattle.events.specs.declared.answer.Outcome.{Outcome}
use Rattle.schedule.specs.declared.setup.Setup.{Setup}
use Rattle.world.specs.Setups.{IsSetup}
use Rattle.farmhistory.specs.declared.refusal.BoardRefusal.{BoardRefusal}
use Rattle.farmhistory.specs.History.{History, farm_of, outcome_of, and_then, answer_of, Took, delivers, is_passed, IsNext}
use Rattle.farmhistory.specs.declared.counts.Counts.{Counts}
use Rattle.farmhistory.specs.Counts.{one_if, tells_commit, is_on_line, leases_at, counted, counts_from, counts_of}
use Rattle.protocol.specs.Ledger.{Lease}
use Rattle.protocol.specs.Lists.{nth}
use Rattle.events.specs.declared.ask.KeptAsk.{KeptAsk}
use Rattle.farmhistory.specs.declared.uses.InUse.{InUse}
use Rattle.farmhistory.specs.Out.{out_if, out_from, out_of, Runs, AreUsed}
use Rattle.farmhistory.proofs.FarmLemmas.{farm_then, next_farm, next_outcome}
use Rattle.farmhistory.proofs.UseLemmas.{used_then}
use Rattle.farmhistory.specs.Boards.{is_behind, PassesTo, AreFew, IsBoard}

or_last : (a b c : Bool) → (a || (b || (c || false))) ≡ ((a || b) || c)
or_last true b c = refl
or_last false true c = refl
or_last false false true = refl
or_last false false false = refl

or_first : (a b c : Bool) → ((a || (b || false)) || c) ≡ ((a || c) || b)
or_first true b c = refl
or_first false true true = refl
or_first false true false = refl
or_first false false true = refl
or_first false false false = refl

or_true : (a : Bool) → (a || true) ≡ true
or_true true = refl
or_true false = refl

or_false : (a : Bool) → (a || false) ≡ a
or_false true = refl
or_false false = refl

-- what is passed after one event more
pub pass_more : (h : History) (e : Event) (k : ℕ) → is_passed (and_then h e) k ≡ (is_passed h k || delivers k e)
pass_more h e k = ap (λ (b : Bool). list_any (λ n. eqb n k) h.skipped || b) (list_any-append (delivers k) h.events (e ∷ [])) ∙ or_last (list_any (λ n. eqb n k) h.skipped) (list_any (delivers k) h.events) (delivers k e)

-- and after one message more that is skipped
skip_more : (h : History) (n : ℕ) (after : List ℕ) (k : ℕ) → after ≡ h.skipped ++ n ∷ [] → is_passed (record { setup = h.setup; events = h.events; skipped = after }) k ≡ (is_passed h k || eqb n k)
skip_more h n after k is =
    ap (λ (xs : List ℕ). list_any (λ m. eqb m k) xs || list_any (delivers k) h.events) is
    ∙ ap (λ (b : Bool). b || list_any (delivers k) h.events) (list_any-append (λ m. eqb m k) h.skipped (n ∷ []))
    ∙ or_first (list_any (λ m. eqb m k) h.skipped) (eqb n k) (list_any (delivers k) h.events)

above : (k n : ℕ) → n < k → leb k n ≡ false
above k n lt = elim (leb_tells k n) [ inl t ↦ absurd (let le = t.1 in omega (arith, le, lt)) | inr f ↦ f.0 ]

upto_here : (k n : ℕ) → k ≤ n → leb k n ≡ true
upto_here k n le = elim (leb_tells k n) [ inl t ↦ t.0 | inr f ↦ absurd (let lt = f.1 in omega (arith, le, lt)) ]

is_itself : (n k : ℕ) → n ≡ k → eqb n k ≡ true
is_itself n k e = elim (eqb_tells n k) [ inl t ↦ t.0 | inr f ↦ absurd (f.1 e) ]

is_other : (n k : ℕ) → n < k → eqb n k ≡ false
is_other n k lt = elim (eqb_tells n k) [ inl t ↦ absurd (let e = t.1 in omega (arith, e, lt)) | inr f ↦ f.0 ]

-- a message that was passed already
pub behind_same : (upto n : ℕ) (ahead now : List ℕ) (k : ℕ) → now ≡ ahead → n ≤ upto → is_behind upto now k ≡ (is_behind upto ahead k || eqb n k)
behind_same upto n ahead now k same le = ap (λ (xs : List ℕ). is_behind upto xs k) same ∙ elim (eqb_tells n k) [
  | inl t ↦ (let e = t.1 in ap (λ (b : Bool). b || list_any (λ m. eqb m k) ahead) (upto_here k upto (omega (arith, e, le))) ∙ sym (ap (λ (b : Bool). is_behind upto ahead k || b) t.0 ∙ or_true (is_behind upto ahead k)))
  | inr f ↦ sym (ap (λ (b : Bool). is_behind upto ahead k || b) f.0 ∙ or_false (is_behind upto ahead k))
]

-- the next one
pub behind_next : (upto n : ℕ) (ahead now : List ℕ) (k : ℕ) → now ≡ ahead → n ≡ upto + 1 → is_behind n now k ≡ (is_behind upto ahead k || eqb n k)
behind_next upto n ahead now k same is = ap (λ (xs : List ℕ). is_behind n xs k) same ∙ elim (leb_tells k upto) [
  | inl t ↦ (let le = t.1 in ap (λ (b : Bool). b || list_any (λ m. eqb m k) ahead) (upto_here k n (omega (arith, le, is))) ∙ sym (ap (λ (b : Bool). (b || list_any (λ m. eqb m k) ahead) || eqb n k) t.0))
  | inr f ↦ elim (eqb_tells n k) [
    | inl e ↦ (let at = e.1 in ap (λ (b : Bool). b || list_any (λ m. eqb m k) ahead) (upto_here k n (omega (arith, at))) ∙ sym (ap (λ (b : Bool). is_behind upto ahead k || b) e.0 ∙ or_true (is_behind upto ahead k)))
    | inr e ↦ (let lt = f.1 in let ne = e.1 in
        ap (λ (b : Bool). b || list_any (λ m. eqb m k) ahead) (above k n (omega (arith, lt, is, ne)) ∙ sym f.0) ∙ sym (ap (λ (b : Bool). is_behind upto ahead k || b) e.0 ∙ or_false (is_behind upto ahead k)))
  ]
]

-- one that is ahead
pub behind_more : (upto n : ℕ) (ahead now : List ℕ) (k : ℕ) → now ≡ ahead ++ n ∷ [] → is_behind upto now k ≡ (is_behind upto ahead k || eqb n k)
behind_more upto n ahead now k is =
    ap (λ (xs : List ℕ). is_behind upto xs k) is ∙ ap (λ (b : Bool). leb k upto || b) (list_any-append (λ m. eqb m k) ahead (n ∷ []))
    ∙ or_last (leb k upto) (list_any (λ m. eqb m k) ahead) (eqb n k)

-- the next message is above all that are passed in a row
module _ (h : History) (upto n : ℕ) (ahead : List ℕ) (passed : (k : ℕ) → 1 ≤ k → is_passed h k ≡ is_behind upto ahead k) (next : IsNext h n) where
  beyond : upto < n
  beyond = elim (leb_tells n upto) [
    | inl t ↦ (let bad : false ≡ true = sym next.here ∙ passed n next.least ∙ ap (λ (b : Bool). b || list_any (λ m. eqb m n) ahead) t.0 in absurd (cc))
    | inr f ↦ f.1
  ]

  far : (k m : ℕ) → 1 ≤ k → m < k → n ≤ m + 1 → is_passed h k ≡ is_behind m ahead k
  far k m low lt at =
      let up = beyond in
      passed k low ∙ ap (λ (b : Bool). b || list_any (λ x. eqb x k) ahead) (above k upto (omega (arith, up, lt, at)) ∙ sym (above k m lt))

  -- so all below it are passed
  pub passed_below : (m : ℕ) → m + 1 ≡ n → (k : ℕ) → 1 ≤ k → is_passed h k ≡ is_behind m ahead k
  passed_below m is k low = elim (leb_tells k m) [
    | inl t ↦ (let le = t.1 in next.others k low (omega (arith, le, is)) ∙ sym (ap (λ (b : Bool). b || list_any (λ x. eqb x k) ahead) t.0))
    | inr f ↦ far k m low f.1 (omega (arith, is))
  ]

  -- and it is, where it is skipped
  pub passed_skipped : (after : List ℕ) → after ≡ h.skipped ++ n ∷ [] → (k : ℕ) → 1 ≤ k → is_passed (record { setup = h.setup; events = h.events; skipped = after }) k ≡ is_behind n ahead k
  passed_skipped after is k low = skip_more h n after k is ∙ elim (leb_tells k n) [
    | inl t ↦ (let le = t.1 in (elim (eqb_tells n k) [
      | inl e ↦ ap (λ (b : Bool). is_passed h k || b) e.0 ∙ or_true (is_passed h k)
      | inr e ↦ (let ne = e.1 in ap (λ (b : Bool). b || eqb n k) (next.others k low (omega (arith, le, ne))))
    ]) ∙ sym (ap (λ (b : Bool). b || list_any (λ x. eqb x k) ahead) t.0))
    | inr f ↦ (let lt = f.1 in ap (λ (b : Bool). is_passed h k || b) (is_other n k lt) ∙ or_false (is_passed h k) ∙ far k n low lt (omega arith))
  ]

-- ---- what is in use, and what is counted

out_then : (events : List Event) (e : Event) (s : Farm) (out : List InUse) → out_from (events ++ e ∷ []) s out
    ≡ out_if (step content_digest farm_limits (run content_digest farm_limits events s) e).outcome e (out_from events s out)
out_then [] e s out = refl
out_then (x ∷ xs) e s out = out_then xs e (step content_digest farm_limits s x).farm (out_if (step content_digest farm_limits s x).outcome x out)

-- what is in use after one event more
next_out : (h : History) (e : Event) (r : Result Outcome EventRefusal) (uses now : List InUse) → outcome_of h e ≡ r → uses ≡ out_of h → now ≡ out_if r e uses → now ≡ out_of (and_then h e)
unfolding farm_of outcome_of out_of
next_out h e r uses now is was then =
    then ∙ ap (λ (x : List InUse). out_if r e x) was ∙ ap (λ (x : Result Outcome EventRefusal). out_if x e (out_from h.events (opening content_digest h.setup.nodes) [])) (sym is)
    ∙ sym (out_then h.events e (opening content_digest h.setup.nodes) [])

counts_then : (events : List Event) (e : Event) (s : Farm) (c : Counts) → counts_from (events ++ e ∷ []) s c
    ≡ counted (leases_at e (run content_digest farm_limits events s).ledger.live) (step content_digest farm_limits (run content_digest farm_limits events s) e).farm (step content_digest farm_limits (run content_digest farm_limits events s) e).outcome (counts_from events s c)
counts_then [] e s c = refl
counts_then (x ∷ xs) e s c =
    counts_then xs e (step content_digest farm_limits s x).farm (counted (leases_at x s.ledger.live) (step content_digest farm_limits s x).farm (step content_digest farm_limits s x).outcome c)

-- what is counted after one event more
next_counts : (s t : Farm) (h : History) (e : Event) (r : Result Outcome EventRefusal) (leases : List Lease) (c now : Counts) → s ≡ farm_of h → step content_digest farm_limits s e ≡ record { farm = t; outcome = r }
    → c ≡ counts_of h → leases ≡ leases_at e s.ledger.live → now ≡ counted leases t r c → now ≡ counts_of (and_then h e)
unfolding farm_of counts_of
next_counts s t h e r leases c now at came was found then =
    let turn : step content_digest farm_limits (farm_of h) e ≡ record { farm = t; outcome = r } = ap (λ (u : Farm). step content_digest farm_limits u e) (sym at) ∙ came in
    let farm : t ≡ (step content_digest farm_limits (farm_of h) e).farm = sym (ap (λ (u : Turn). u.farm) turn) in
    let outcome : r ≡ (step content_digest farm_limits (farm_of h) e).outcome = sym (ap (λ (u : Turn). u.outcome) turn) in
    let live : leases ≡ leases_at e (farm_of h).ledger.live = found ∙ ap (λ (u : Farm). leases_at e u.ledger.live) at in
    then ∙ (λ j. counted (live j) (farm j) (outcome j) (was j)) ∙ sym (counts_then h.events e (opening content_digest h.setup.nodes) (record { committed = 0; kept = 0; refused = 0 }))

one_if_few : (b : Bool) → one_if b ≤ 1
one_if_few true = omega arith
one_if_few false = omega arith

few_counted : (leases : List Lease) (t : Farm) (r : Result Outcome EventRefusal) (c : Counts) (n : ℕ) → AreFew c n → AreFew (counted leases t r c) (n + 1)
few_counted leases t (Ok o) c n few = record {
  committed = (let one = one_if_few (tells_commit o.note) in let was = few.committed in omega (arith, one, was));
  kept = (let one = one_if_few (list_any (is_on_line t) leases) in let was = few.kept in omega (arith, one, was));
  refused = (let was = few.refused in omega (arith, was));
}
few_counted leases t (Err r) c n few = record {
  committed = (let was = few.committed in omega (arith, was));
  kept = (let was = few.kept in omega (arith, was));
  refused = (let was = few.refused in omega (arith, was));
}

-- fewer than the events of a schedule
pub fewer : (c : Counts) (n m : ℕ) → AreFew c n → n ≤ m → AreFew c m
fewer c n m few le = record {
  committed = (let was = few.committed in omega (arith, was, le));
  kept = (let was = few.kept in omega (arith, was, le));
  refused = (let was = few.refused in omega (arith, was, le));
}

took_as : (r : Result Outcome EventRefusal) (new h : History) (e : Event) → length h.events < EVENTS → outcome_of h e ≡ r → new ≡ and_then h e → Took h e new (answer_of r)
took_as (Ok o) new h e room is now = (room, is, now)
took_as (Err r) new h e room is now = (room, is, now)

module _ (s t : Farm) (h : History) (upto upto' : ℕ) (ahead ahead' : List ℕ) (e copy : Event) (r : Result Outcome EventRefusal) (leases : List Lease) (before after : List Event) (uses now : List InUse) (c d : Counts)
    (b : IsBoard s h upto ahead uses c) (room : length h.events < EVENTS) (came : step content_digest farm_limits s e ≡ record { farm = t; outcome = r })
    (same : copy ≡ e) (was : before ≡ h.events) (pushed : after ≡ before ++ copy ∷ []) (noted : now ≡ out_if r copy uses) (passes : PassesTo copy upto ahead upto' ahead')
    (found : leases ≡ leases_at e s.ledger.live) (counts : d ≡ counted leases t r c) where
  now_is : after ≡ h.events ++ e ∷ []
  now_is = pushed ∙ ap (λ (xs : List Event). xs ++ copy ∷ []) was ∙ ap (λ (x : Event). h.events ++ x ∷ []) same

  then_is : ◌≡◌ {A = History} (record { setup = h.setup; events = after; skipped = h.skipped }) (and_then h e)
  then_is = ap (λ (xs : List Event). record { setup = h.setup; events = xs; skipped = h.skipped }) now_is

  longer : length (h.events ++ e ∷ []) ≡ length h.events + 1
  longer = length-append h.events (e ∷ [])

  used_now : AreUsed t now
  used_now =
      let outcome = next_outcome s t h e r b.farm came in
      let listed : now ≡ out_if (outcome_of h e) e uses = noted ∙ ap (λ (x : Event). out_if r x uses) same ∙ ap (λ (x : Result Outcome EventRefusal). out_if x e uses) (sym outcome) in
      subst (λ (x : Farm). AreUsed x now) (sym (next_farm s t h e r b.farm came))
      (subst (λ (x : List InUse). AreUsed (farm_of (and_then h e)) x) (sym listed) (used_then h e uses (subst (λ (x : Farm). AreUsed x uses) b.farm b.used)))

  grown : IsBoard t (and_then h e) upto' ahead' now d
  grown = record {
    farm = next_farm s t h e r b.farm came;
    setup = b.setup;
    room = omega (arith, longer);
    passed = λ k low. pass_more h e k ∙ ap (λ (x : Bool). x || delivers k e) (b.passed k low) ∙ ap (λ (x : Event). is_behind upto ahead k || delivers k x) (sym same) ∙ sym (passes k);
    out = next_out h e r uses now (next_outcome s t h e r b.farm came) b.out (noted ∙ ap (λ (x : Event). out_if r x uses) same);
    counts = next_counts s t h e r leases c d b.farm came b.counts found counts;
    used = used_now;
    few = subst (AreFew d) (sym longer) (subst (λ (x : Counts). AreFew x (length h.events + 1)) (sym counts) (few_counted leases t r c (length h.events) b.few));
  }

  -- a board that takes an event stays one
  pub board_pushed : IsBoard t (record { setup = h.setup; events = after; skipped = h.skipped }) upto' ahead' now d
  board_pushed = subst (λ (x : History). IsBoard t x upto' ahead' now d) (sym then_is) grown

  -- and has appended it
  pub took_pushed : (old : History) → h ≡ old → (answer : Result Outcome BoardRefusal) → answer ≡ answer_of r → Took old e (record { setup = h.setup; events = after; skipped = h.skipped }) answer
  took_pushed old view answer is =
      subst (λ (a : Result Outcome BoardRefusal). Took old e (record { setup = h.setup; events = after; skipped = h.skipped }) a) (sym is)
      (subst (λ (x : History). Took x e (record { setup = h.setup; events = after; skipped = h.skipped }) (answer_of r)) view
      (took_as r (record { setup = h.setup; events = after; skipped = h.skipped }) h e room (next_outcome s t h e r b.farm came) then_is))

none_used : (setup : Setup) → AreUsed (opening content_digest setup.nodes) []
none_used setup = record { each = λ u i. absurd i; all = λ u runs. nothing runs.0 runs.4 }
  where
    nothing : {P : Type 0} (a : ℕ) {s : KeptAsk} → ◌≡◌ {A = Option KeptAsk} (nth [] a) (Some s) → P
    nothing zero at = absurd (cc)
    nothing (suc a) at = absurd (cc)

-- a board of a farm where nothing happened
pub board_starts : (s : Farm) (setup : Setup) (events : List Event) (skipped ahead : List ℕ) (uses : List InUse) → events ≡ [] → skipped ≡ [] → ahead ≡ [] → uses ≡ [] → s ≡ opening content_digest setup.nodes → IsSetup setup
    → IsBoard s (record { setup = setup; events = events; skipped = skipped }) 0 ahead uses (record { committed = 0; kept = 0; refused = 0 })
unfolding farm_of out_of counts_of
board_starts s setup events skipped ahead uses none unskipped empty idle at fits = record {
  farm = at ∙ ap (λ (xs : List Event). run content_digest farm_limits xs (opening content_digest setup.nodes)) (sym none);
  setup = fits;
  room = rw none (omega arith);
  passed = λ k low. (λ j. list_any (λ n. eqb n k) (unskipped j) || list_any (delivers k) (none j)) ∙ sym (ap (λ (b : Bool). b || list_any (λ n. eqb n k) ahead) (above k 0 (omega (arith, low))) ∙ ap (λ (xs : List ℕ). list_any (λ n. eqb n k) xs) empty);
  out = idle ∙ ap (λ (xs : List Event). out_from xs (opening content_digest setup.nodes) []) (sym none);
  counts = ap (λ (xs : List Event). counts_from xs (opening content_digest setup.nodes) (record { committed = 0; kept = 0; refused = 0 })) (sym none);
  used = subst (λ (x : Farm). AreUsed x uses) (sym at) (subst (AreUsed (opening content_digest setup.nodes)) (sym idle) (none_used setup));
  few = record { committed = omega arith; kept = omega arith; refused = omega arith };
}

-- all below the next message are passed
pub board_moved : (s : Farm) (h : History) (upto n m : ℕ) (ahead : List ℕ) (uses : List InUse) (c : Counts) → IsBoard s h upto ahead uses c → IsNext h n → m + 1 ≡ n → IsBoard s h m ahead uses c
board_moved s h upto n m ahead uses c b next is = record { farm = b.farm; setup = b.setup; room = b.room; passed = passed_below h upto n ahead b.passed next m is; out = b.out; counts = b.counts; used = b.used; few = b.few }

-- the next message is skipped
pub skipped_more : (s : Farm) (h : History) (upto n : ℕ) (ahead : List ℕ) (uses : List InUse) (c : Counts) (after : List ℕ) → IsBoard s h upto ahead uses c → IsNext h n → after ≡ h.skipped ++ n ∷ []
    → IsBoard s (record { setup = h.setup; events = h.events; skipped = after }) n ahead uses c
unfolding farm_of out_of counts_of
skipped_more s h upto n ahead uses c after b next is = record { farm = b.farm; setup = b.setup; room = b.room; passed = passed_skipped h upto n ahead b.passed next after is; out = b.out; counts = b.counts; used = b.used; few = b.few }

-- what is passed in a row
pub all_behind : (h : History) (upto : ℕ) (ahead : List ℕ) → ((k : ℕ) → 1 ≤ k → is_passed h k ≡ is_behind upto ahead k) → (k : ℕ) → 1 ≤ k → k ≤ upto → is_passed h k ≡ true
all_behind h upto ahead passed k low high = passed k low ∙ ap (λ (b : Bool). b || list_any (λ n. eqb n k) ahead) (upto_here k upto high)
