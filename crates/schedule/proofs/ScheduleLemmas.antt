-- Lines of a schedule.
use Rattle.std.proofs.Common.{Bor, ◌≡◌, ◌≢◌, ℕ, suc, ◌+◌, ◌-◌, ◌<◌, ◌≤◌, ◌==◌, ◌^◌, Bool, false, inl, inr, List, [], ◌∷◌, ◌++◌, take, drop, length, Option, Some, None, Result, Err, refl, sym, ap, ◌∙◌, subst, lt-ltb, le-ltb, length-append, length-drop, arith}
use Rattle.std.specs.Prelude.{codes, decimal, position}
use Rattle.std.specs.List.{slice_split, position_or_len, onto_first}
use Rattle.std.specs.Str.{IsUtf8, IsAscii}
use Rattle.std.proofs.lemmas.Bool.{cases_Bool, cases_lt}
use Rattle.std.proofs.lemmas.List.{take-append-drop, append-nil, map-append}
use Rattle.std.proofs.Math.Seq.{drop-cons, take-length}
use Rattle.std.proofs.lemmas.List.Elements.{filter-append}
use Rattle.std.proofs.lemmas.List.Splits.{slice_split_first, slice_split-cons_no}
use Rattle.std.proofs.lemmas.Fmt.{decimal_injective, IsAscii-decimal}
use Rattle.std.proofs.lemmas.Str.{IsUtf8-from_ascii}
use Rattle.std.proofs.lemmas.Str.Ascii.{IsAscii-cons}
use Rattle.std.specs.Iterator.{Yields}
use Rattle.std.proofs.lemmas.Iterator.{YieldsList}
use Rattle.std.proofs.lemmas.Iterator.Consumers.{YieldsList-so_far, YieldsList-turn}
use Rattle.lists.proofs.Places.{AllZip-push}
use Rattle.events.specs.declared.event.Event.{Event}
use Rattle.schedule.specs.declared.setup.Setup.{Setup}
use Rattle.words.specs.declared.refusal.ReadRefusal.{ReadRefusal}
use Rattle.words.specs.declared.refusal.ReadRefusal.TheVariants.{BadForm, OutOfMemory}
use Rattle.schedule.specs.declared.refusal.ScheduleRefusal.{ScheduleRefusal}
use Rattle.schedule.specs.declared.refusal.ScheduleRefusal.TheVariants as schedule
use Rattle.schedule.specs.Lines.{IsSpelled}
use Rattle.words.specs.Words.{texts}
use Rattle.schedule.specs.Refusals.{refusal_at}
use Rattle.schedule.specs.Schedules.{lines, most_bytes, EVENTS, is_filled, filled, IsSetup, AreEvents, IsRefused}
use Rattle.schedule.specs.Steps.{AddsLine, AreRefused, IsLineRefused}

-- ---- one line

pub not_empty : (line : List ℕ) → (length line == 0) ≡ false → line ≢ []
not_empty [] h = λ e. cc h
not_empty (b ∷ line) h = λ e. cc e

pub line_refused : {X : Type 0} (r : Result X ReadRefusal) (refusal : ReadRefusal) (line : List ℕ) (number count : ℕ) → r ≡ Err refusal
    → line ≢ [] → count < EVENTS → (r ≡ Err BadForm → (e : Event) → IsSpelled line e → ⊥)
    → IsLineRefused line number count (refusal_at refusal number)
line_refused r BadForm line number count is some room none = (refl, some, room, none is)
line_refused r OutOfMemory line number count is some room none = tt

-- ---- the setup

setup_ascii : (s : Setup) → s.nodes < 2 ^ 64 → IsAscii (codes "nodes " ++ decimal s.nodes)
setup_ascii s lt =
    let digits = IsAscii-decimal s.nodes lt in
    let space : IsAscii (32 ∷ decimal s.nodes) = IsAscii-cons 32 (decimal s.nodes) (omega arith) digits in
    let front : IsAscii (115 ∷ 32 ∷ decimal s.nodes) = IsAscii-cons 115 (32 ∷ decimal s.nodes) (omega arith) space in
    let back : IsAscii (101 ∷ 115 ∷ 32 ∷ decimal s.nodes) = IsAscii-cons 101 (115 ∷ 32 ∷ decimal s.nodes) (omega arith) front in
    let middle : IsAscii (100 ∷ 101 ∷ 115 ∷ 32 ∷ decimal s.nodes) = IsAscii-cons 100 (101 ∷ 115 ∷ 32 ∷ decimal s.nodes) (omega arith) back in
    let more : IsAscii (111 ∷ 100 ∷ 101 ∷ 115 ∷ 32 ∷ decimal s.nodes) = IsAscii-cons 111 (100 ∷ 101 ∷ 115 ∷ 32 ∷ decimal s.nodes) (omega arith) middle in
    IsAscii-cons 110 (111 ∷ 100 ∷ 101 ∷ 115 ∷ 32 ∷ decimal s.nodes) (omega arith) more

pub setup_utf8 : (line : List ℕ) (s : Setup) → IsSetup line s → IsUtf8 line
setup_utf8 line s h =
    let few = h.few in
    IsUtf8-from_ascii line (subst IsAscii (sym h.text) (setup_ascii s (omega arith)))

-- the number of a setup is determined
pub setup_number : (line rest : List ℕ) (n : ℕ) (s : Setup) → IsSetup line s → line ≡ codes "nodes " ++ rest → rest ≡ decimal n → n < 2 ^ 64 → n ≡ s.nodes
setup_number line rest n s h e is lt =
    let few = h.few in
    let same : rest ≡ decimal s.nodes = cc (sym e ∙ h.text) in
    decimal_injective n s.nodes lt (omega arith) (sym is ∙ same)

-- ---- the first line

alone : (p : ℕ → Bool) (xs : List ℕ) → length xs ≤ position_or_len p xs → slice_split p xs ≡ xs ∷ []
alone p [] h = refl
alone p (x ∷ xs) h =
    elim (cases_Bool (p x)) [
      | inl here ↦ absurd (let h' = rw here at h in omega arith)
      | inr none ↦ let h' = rw none at h in let rest = alone p xs (omega arith) in slice_split-cons_no p x xs none ∙ ap (onto_first x) rest
    ]

pub first_alone : (p : ℕ → Bool) (xs : List ℕ) → position p xs ≡ None → slice_split p xs ≡ xs ∷ []
first_alone p xs h =
    elim (cases_lt (position_or_len p xs) (length xs)) [
      | inl inside ↦ let inside' = lt-ltb _ _ inside in cc (rw inside' at h)
      | inr past ↦ alone p xs past
    ]

pub first_split : (p : ℕ → Bool) (xs : List ℕ) (end : ℕ) → position p xs ≡ Some end
    → slice_split p xs ≡ take end xs ∷ slice_split p (take (length xs - (end + 1)) (drop (end + 1) xs))
first_split p xs end h =
    elim (cases_lt (position_or_len p xs) (length xs)) [
      | inl inside ↦
          let inside' = lt-ltb _ _ inside in
          let here : position_or_len p xs ≡ end = cc (rw inside' at h) in
          let len : length xs - (end + 1) ≡ length (drop (end + 1) xs) = sym (length-drop (end + 1) xs) in
          let rest = take-length (drop (end + 1) xs) in
          let cut = rw here at (slice_split_first p xs 0 inside) in
          rw (len, rest) cut
      | inr past ↦ let past' = le-ltb _ _ past in cc (rw past' at h)
    ]

-- ---- lines so far

texts-push : (front : List (Bor (List ℕ))) (w : Bor (List ℕ)) → texts (front ++ w ∷ []) ≡ texts front ++ w.now ∷ []
texts-push front w = map-append (λ (x : Bor (List ℕ)). x.now) front (w ∷ [])

-- the events with one more line
pub events_more : (front : List (Bor (List ℕ))) (es new : List Event) (w : Bor (List ℕ)) → AreEvents (texts front) es → AddsLine es w.now new
    → AreEvents (texts (front ++ w ∷ [])) new
events_more front es new w h line = by_line w.now refl line
  where
    -- the lines so far are those of the front, and the line if it isn't empty
    so_far : (added : List (List ℕ)) → filled (w.now ∷ []) ≡ added → filled (texts (front ++ w ∷ [])) ≡ filled (texts front) ++ added
    so_far added e = ap filled (texts-push front w) ∙ filter-append is_filled (texts front) (w.now ∷ []) ∙ ap (λ ls. filled (texts front) ++ ls) e

    by_line : (line : List ℕ) → w.now ≡ line → AddsLine es line new → AreEvents (texts (front ++ w ∷ [])) new
    by_line [] is adds =
        let same = so_far [] (ap (λ (l : List ℕ). filled (l ∷ [])) is) ∙ append-nil (filled (texts front)) in
        rw (adds.empty refl) (record { few = h.few; spelled = rw same h.spelled })
    by_line (b ∷ bs) is adds =
        let adds' = adds.filled (λ e. cc e) in
        let same = so_far ((b ∷ bs) ∷ []) (ap (λ (l : List ℕ). filled (l ∷ [])) is) in
        let room = adds'.room in
        rw adds'.added (record {
          few = omega (arith, length-append es (adds'.event ∷ []));
          spelled = rw same (AllZip-push IsSpelled (filled (texts front)) es (b ∷ bs) adds'.event h.spelled adds'.spelled);
        })

-- where the line of a turn stands
pub line_here : {S : Type 0} {steps : S → Option (Bor (List ℕ)) → S → Type 0} {s : S} {all : List (List ℕ)} (road : YieldsList steps (λ w. w.now) s all)
    (front : List (Bor (List ℕ))) (t : S) (y : Yields steps s front t) (r : Option (Bor (List ℕ))) (u : S) (w : Bor (List ℕ)) → r ≡ Some w → steps t r u
    → all ≡ texts front ++ w.now ∷ drop (suc (length front)) all
line_here {all = all} road front t y r u w is step =
    let so_far : texts front ≡ take (length front) all = YieldsList-so_far road front t y in
    let this = YieldsList-turn road front t y r u w is step in
    let rest = drop-cons all (length front) w.now this.0 in
    sym (take-append-drop (length front) all) ∙ cc (so_far, rest, this.1)

-- if a line is refused, so are the lines
pub refused_here : (all : List (List ℕ)) (front : List (List ℕ)) (line : List ℕ) (behind : List (List ℕ)) (es : List Event) (number : ℕ) (r : ScheduleRefusal)
    → all ≡ front ++ line ∷ behind → AreEvents front es → number ≡ length front + 2 → IsLineRefused line number (length es) r → AreRefused all r
refused_here all front line behind es number schedule.TooLarge split before place h = h
refused_here all front line behind es number (schedule.BadLine n) split before place h = record {
  front = front;
  line = line;
  behind = behind;
  split = split;
  holds = (h.0 ∙ place, record { events = es; before = before; room = h.2; filled = h.1; unspelled = h.3 });
}
refused_here all front line behind es number schedule.TooManyEvents split before place h =
    let few = before.few in
    let most = h.1 in
    record {
      front = front;
      line = line;
      behind = behind;
      split = split;
      holds = record { events = es; before = before; full = omega arith; filled = h.0 };
    }
refused_here all front line behind es number schedule.OutOfMemory split before place h = tt

-- ---- the whole

-- if the lines after a setup are refused, so is the text
pub refused_behind : (text first : List ℕ) (others : List (List ℕ)) (s : Setup) (r : ScheduleRefusal) → length text ≤ most_bytes
    → lines text ≡ first ∷ others → IsSetup first s → AreRefused others r → IsRefused text r
refused_behind text first others s schedule.TooLarge small split setup h = absurd h
refused_behind text first others s (schedule.BadLine n) small split setup h = (
  small,
  record {
    front = first ∷ h.front;
    line = h.line;
    behind = h.behind;
    split = split ∙ ap (λ ls. first ∷ ls) h.split;
    holds = (let place = h.holds.0 in omega arith, (s, setup, h.holds.1));
  },
)
refused_behind text first others s schedule.TooManyEvents small split setup h = (
  small,
  record {
    front = first ∷ h.front;
    line = h.line;
    behind = h.behind;
    split = split ∙ ap (λ ls. first ∷ ls) h.split;
    holds = (s, setup, h.holds);
  },
)
refused_behind text first others s schedule.OutOfMemory small split setup h = tt

-- a first line that is not a setup
pub refused_first : (text first : List ℕ) (others : List (List ℕ)) → length text ≤ most_bytes → lines text ≡ first ∷ others
    → ((s : Setup) → IsSetup first s → ⊥) → IsRefused text (schedule.BadLine 1)
refused_first text first others small split none = (
  small,
  record {
    front = [];
    line = first;
    behind = others;
    split = split;
    holds = (refl, none);
  },
)
