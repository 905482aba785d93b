-- A search among tickets that rise: what it has ruled out, what it finds, and how often it looks.
use Rattle.std.proofs.Common.{◌≡◌, ◌≢◌, ℕ, zero, suc, ◌+◌, ◌-◌, ◌/◌, ◌^◌, ◌<◌, ◌≤◌, true, false, cond, eqb, ltb, inl, inr, add-one, eq-eqb, List, [], ◌∷◌, length, get_or, map, Option, Some, None, refl, sym, ap, ◌∙◌, subst, arith}
use Rattle.std.specs.Prelude.{All, IsSome, IfSome, IfNone, slice_get}
use Rattle.std.specs.List.{position_from}
use Rattle.std.specs.Int.Digits.{digits_of, number_from_digits}
use Rattle.std.proofs.lemmas.Bool.{cases_Bool, ne_eqb}
use borrow.Author.Tests.{ltb-true, ltb-false}
use Rattle.std.proofs.lemmas.Int.Digits.{number_lt, number_digits_of, all_below_base_digits_of, length-digits_of_step, length-digits_of-le}
use Rattle.std.proofs.lemmas.List.{get_or-map, length-map}
use Rattle.std.proofs.lemmas.List.Kept.{AllPairs-from_increasing}
use Rattle.std.proofs.lemmas.Option.{get_or_from_slice_get, slice_get_within, slice_get-map}
use Rattle.std.proofs.lemmas.Simd.{map-map}
use Rattle.farm_base.specs.declared.message.LineVersion.{LineVersion}
use Rattle.names.specs.declared.number.Ticket.{Ticket}
use Rattle.versions.specs.Line.{IsLine, ticket_in, number_in}
use Rattle.versions.specs.Probes.{AreRising, ticket_numbered, number_among, binary_digit_count}

-- ---- binary digits

within_digits : (n : ℕ) → n < 2 ^ binary_digit_count n
within_digits n =
    let two : 2 ≤ 2 = omega arith in
    let same : number_from_digits 2 (digits_of 2 n) ≡ n = number_digits_of 2 n two in
    let below : number_from_digits 2 (digits_of 2 n) < 2 ^ length (digits_of 2 n) = number_lt 2 (digits_of 2 n) (all_below_base_digits_of 2 n two) in
    subst (λ (m : ℕ). m < 2 ^ length (digits_of 2 n)) same below

-- a half, rounded down, and all below it have a digit less
pub half_has_less : (m n : ℕ) → 0 < n → m ≤ n / 2 → binary_digit_count m + 1 ≤ binary_digit_count n
half_has_less m n some le =
    let half = within_digits (n / 2) in
    let no_more : binary_digit_count m ≤ binary_digit_count (n / 2) = length-digits_of-le 2 (binary_digit_count (n / 2)) m (omega arith) (omega arith) in
    let step = length-digits_of_step 2 n (omega arith) some in
    omega arith

pub at_most_64 : (n : ℕ) → n < 2 ^ 64 → binary_digit_count n ≤ 64
at_most_64 n small = length-digits_of-le 2 64 n (omega arith) small

-- ---- what is ruled out

-- the ticket is above all before these places, and below all after them
pub record IsLeft (tickets : List Ticket) (ticket : Ticket) (below left : ℕ) : Type 0 where
  pub inside : below + left ≤ length tickets
  pub low : (i : ℕ) (d : Ticket) → i < below → (get_or tickets i d).0 < ticket.0
  pub high : (i : ℕ) (d : Ticket) → below + left ≤ i → i < length tickets → ticket.0 < (get_or tickets i d).0

-- each ticket is below all that come after it
rises : (ts : List Ticket) (i k : ℕ) (d : Ticket) → AreRising ts → i < k → k < length ts → (get_or ts i d).0 < (get_or ts k d).0
rises ts i k d up lt inside =
    let inside' : k < length (map (λ (t : Ticket). t.0) ts) = omega (arith, length-map ts (λ (t : Ticket). t.0)) in
    let below = AllPairs-from_increasing (map (λ (t : Ticket). t.0) ts) up i k 0 lt inside' in
    let low = get_or-map (λ (t : Ticket). t.0) ts i d 0 (omega arith) in
    let high = get_or-map (λ (t : Ticket). t.0) ts k d 0 inside in
    omega arith

no_higher : (ts : List Ticket) (i k : ℕ) (d : Ticket) → AreRising ts → i ≤ k → k < length ts → (get_or ts i d).0 ≤ (get_or ts k d).0
no_higher ts i k d up le inside = elim (cases_Bool (ltb i k)) [
  | inl less ↦ (let below = rises ts i k d up (ltb-true i k less) inside in omega arith)
  | inr late ↦
      let after : k ≤ i = ltb-false i k late in
      let same : i ≡ k = omega arith in
      let equal : (get_or ts i d).0 ≡ (get_or ts k d).0 = ap (λ (n : ℕ). (get_or ts n d).0) same in
      omega arith
]

-- what a probe of this place finds
pub found_at : (ts us : List Ticket) (k : ℕ) (r : Option Ticket) (x : Ticket) → r ≡ ticket_numbered us (k + 1) → us ≡ ts → r ≡ Some x → slice_get ts k ≡ Some x
found_at ts us k r x e same some =
    let at : r ≡ slice_get us k = rw add-one at e in
    ap (λ zs. slice_get zs k) (sym same) ∙ (sym at ∙ some)

pub finds : (ts us : List Ticket) (k : ℕ) (r : Option Ticket) → r ≡ ticket_numbered us (k + 1) → us ≡ ts → k < length ts → IsSome r
finds ts us k r e same inside =
    let at : r ≡ slice_get us k = rw add-one at e in
    subst IsSome (sym (at ∙ ap (λ zs. slice_get zs k) same)) (by ts k inside)
  where
    by : (xs : List Ticket) (i : ℕ) → i < length xs → IsSome (slice_get xs i)
    by [] i lt = absurd (omega arith)
    by (x ∷ xs) zero lt = refl
    by (x ∷ xs) (suc i) lt = by xs i (omega arith)

pub all_left : (ts : List Ticket) (t : Ticket) → IsLeft ts t 0 (length ts)
all_left ts t = record { inside = omega arith; low = λ i d lt. absurd (omega arith); high = λ i d le lt. absurd (omega arith) }

-- what is left after the place of a lower ticket
pub left_above : (ts : List Ticket) (t x : Ticket) (below left half : ℕ) → AreRising ts → IsLeft ts t below left → half < left
    → slice_get ts (below + half) ≡ Some x → x.0 < t.0 → IsLeft ts t (below + half + 1) (left - (half + 1))
left_above ts t x below left half up h to at lower =
    let within : below + left ≤ length ts = h.inside in
    record {
      inside = omega arith;
      low = λ i d lt.
          let here : get_or ts (below + half) d ≡ x = get_or_from_slice_get ts (below + half) x d at in
          let number : (get_or ts (below + half) d).0 ≡ x.0 = ap (λ (y : Ticket). y.0) here in
          let order = no_higher ts i (below + half) d up (omega arith) (omega arith) in
          omega arith;
      high = λ i d le lt. h.high i d (omega arith) lt;
    }

-- what is left before the place of a higher ticket
pub left_below : (ts : List Ticket) (t x : Ticket) (below left half : ℕ) → AreRising ts → IsLeft ts t below left → half < left
    → slice_get ts (below + half) ≡ Some x → t.0 < x.0 → IsLeft ts t below half
left_below ts t x below left half up h to at higher =
    let within : below + left ≤ length ts = h.inside in
    record {
      inside = omega arith;
      low = h.low;
      high = λ i d le lt.
          let here : get_or ts (below + half) d ≡ x = get_or_from_slice_get ts (below + half) x d at in
          let number : (get_or ts (below + half) d).0 ≡ x.0 = ap (λ (y : Ticket). y.0) here in
          let order = no_higher ts (below + half) i d up le lt in
          omega arith;
    }

-- ---- what is found

pub absent : (ts : List Ticket) (t : Ticket) (below left : ℕ) → IsLeft ts t below left → left ≤ 0 → All (λ x. x.0 ≢ t.0) ts
absent ts t below left h none i d inside = elim (cases_Bool (ltb i below)) [
  | inl less ↦ λ e. (let low = h.low i d (ltb-true i below less) in omega arith)
  | inr late ↦ λ e. (let after : below ≤ i = ltb-false i below late in let high = h.high i d (omega arith) inside in omega arith)
]

number_from : (t : Ticket) (ts : List Ticket) (k from : ℕ) → (x : Ticket) → slice_get ts k ≡ Some x → x.0 ≡ t.0
    → ((i : ℕ) (d : Ticket) → i < k → (get_or ts i d).0 ≢ t.0) → position_from (λ y. eqb y.0 t.0) from ts ≡ Some (from + k)
number_from t [] k from x at e before = absurd (cc at)
number_from t (y ∷ ts) zero from x at e before =
    let here : y ≡ x = cc at in
    let first : eqb y.0 t.0 ≡ true = eq-eqb _ _ (ap (λ (z : Ticket). z.0) here ∙ e) in
    let same : from ≡ from + 0 = omega arith in
    rw first (ap Some same)
number_from t (y ∷ ts) (suc k) from x at e before =
    let other : eqb y.0 t.0 ≡ false = ne_eqb y.0 t.0 (before 0 y (omega arith)) in
    let rest = number_from t ts k (from + 1) x at e (λ i d lt. before (suc i) d (omega arith)) in
    let same : from + 1 + k ≡ from + suc k = omega arith in
    rw other (rest ∙ ap Some same)

-- a ticket that stands at a place has the number after it
pub number_at : (ts : List Ticket) (t x : Ticket) (k : ℕ) → AreRising ts → slice_get ts k ≡ Some x → x.0 ≡ t.0 → number_among ts t ≡ Some (k + 1)
number_at ts t x k up at e =
    let inside = slice_get_within ts k x at in
    let before : (i : ℕ) (d : Ticket) → i < k → (get_or ts i d).0 ≢ t.0
    = λ i d lt same.
    let here : get_or ts k d ≡ x = get_or_from_slice_get ts k x d at in
    let number : (get_or ts k d).0 ≡ x.0 = ap (λ (y : Ticket). y.0) here in
    let order = rises ts i k d up lt inside in
    omega arith
    in
    let next : 1 + k ≡ k + 1 = omega arith in
    number_from t ts k 1 x at e before ∙ ap Some next

-- and that number has the ticket
pub ticket_at : (ts : List Ticket) (t x : Ticket) (k : ℕ) → slice_get ts k ≡ Some x → x.0 ≡ t.0 → ticket_numbered ts (k + 1) ≡ Some t
ticket_at ts t x k at e =
    let same : x ≡ t = λ j. record { 0 = e j } in
    rw add-one (at ∙ ap Some same)

pub number_absent : (ts : List Ticket) (t : Ticket) → All (λ x. x.0 ≢ t.0) ts → number_among ts t ≡ None
number_absent ts t none = by ts 1 none
  where
    by : (xs : List Ticket) (from : ℕ) → All (λ x. x.0 ≢ t.0) xs → position_from (λ y. eqb y.0 t.0) from xs ≡ None
    by [] from none = refl
    by (x ∷ xs) from none =
        let other : eqb x.0 t.0 ≡ false = ne_eqb x.0 t.0 (none 0 x (omega arith)) in
        rw other (by xs (from + 1) (λ i d inside. none (suc i) d (omega arith)))

pub no_number : (ts : List Ticket) (t : Ticket) → All (λ x. x.0 ≢ t.0) ts → (number : ℕ) → ticket_numbered ts number ≢ Some t
no_number ts t none zero e = cc e
no_number ts t none (suc k) e =
    let inside = slice_get_within ts k t e in
    none k t inside (ap (λ (x : Ticket). x.0) (get_or_from_slice_get ts k t t e))

-- ---- the tickets of a line

pub line_rises : (line : List LineVersion) → IsLine line → AreRising (map (λ v. v.ticket) line)
line_rises line up = rw (map-map (λ (t : Ticket). t.0) (λ (v : LineVersion). v.ticket) line) up

pub ticket_on_line : (line : List LineVersion) (number : ℕ) → ticket_numbered (map (λ v. v.ticket) line) number ≡ ticket_in line number
ticket_on_line line zero = refl
ticket_on_line line (suc k) = slice_get-map (λ (v : LineVersion). v.ticket) line k

pub number_on_line : (line : List LineVersion) (t : Ticket) → number_among (map (λ v. v.ticket) line) t ≡ number_in line t
number_on_line line t = by line 1
  where
    by : (vs : List LineVersion) (from : ℕ) → position_from (λ x. eqb x.0 t.0) from (map (λ v. v.ticket) vs) ≡ position_from (λ v. eqb v.ticket.0 t.0) from vs
    by [] from = refl
    by (v ∷ vs) from = ap (cond (eqb v.ticket.0 t.0) (Some from)) (by vs (from + 1))

pub found_on_line : (line : List LineVersion) (t : Ticket) (ts : List Ticket) (r : Option ℕ) → ts ≡ map (λ v. v.ticket) line
    → IfSome r (λ number. ticket_numbered ts number ≡ Some t) → IfSome r (λ number. ticket_in line number ≡ Some t)
found_on_line line t ts None same h = h
found_on_line line t ts (Some number) same h = sym (ticket_on_line line number) ∙ (ap (λ xs. ticket_numbered xs number) (sym same) ∙ h)

pub only_on_line : (line : List LineVersion) (t : Ticket) (ts : List Ticket) (r : Option ℕ) → ts ≡ map (λ v. v.ticket) line
    → IfNone r ((number : ℕ) → ticket_numbered ts number ≢ Some t) → IfNone r ((number : ℕ) → ticket_in line number ≢ Some t)
only_on_line line t ts None same h = λ number at. h number (ap (λ xs. ticket_numbered xs number) same ∙ (ticket_on_line line number ∙ at))
only_on_line line t ts (Some number) same h = h
