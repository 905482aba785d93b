-- Which asks of a life have no row any more.
use mathlib.Core.Path.{fun_ext}
use Rattle.std.proofs.Common.{◌≡◌, ◌⊎◌, ℕ, zero, suc, ◌+◌, ◌<◌, ◌≤◌, inl, inr, Bool, true, false, not, ◌&&◌, ◌||◌, cond, List, [], ◌∷◌, ◌++◌, length, set, drop, filter, Option, Some, None, slice_get, is_some, option_map, refl, sym, ap, ◌∙◌, arith}
use Rattle.std.specs.Prelude.{◌==◌}
use Rattle.std.specs.List.{list_any}
use Rattle.std.proofs.lemmas.Bool.{cases_Bool, eqb-true, eq-eqb, ne_eqb}
use Rattle.std.proofs.lemmas.List.Folds.{list_any-append}
use Rattle.protocol.proofs.Base.{some_is}
use Rattle.protocol.specs.Lists.{nth}
use Rattle.events.specs.declared.ask.KeptAsk.{KeptAsk}
use Rattle.nodeasks.specs.declared.ask_row.AskRow.{AskRow}
use Rattle.nodeasks.specs.declared.ask_state.AskState.TheVariants as told
use Rattle.nodeasks.specs.Asks.{told_unless, way_out_unless}
use Rattle.nodeasks.specs.Rows.{is_over, row, HaveRows, has_row, is_lost, none_lost, endings, endings_after, row_endings, IsRowOfAsk}
use Rattle.nodeasks.proofs.RowLemmas.{placed, more_counts}

-- nothing is lost where nothing was made
none_made : (rows : List AskRow) (a : ℕ) → is_lost [] rows a ≡ none_lost a
none_made rows zero = refl
none_made rows (suc i) = refl

pub none_lost_at : (rows : List AskRow) → is_lost [] rows ≡ none_lost
none_lost_at rows = fun_ext (none_made rows)

-- a list with another element at a place has elements at the same places
set_some : {A : Type 0} (xs : List A) (i : ℕ) (x : A) (j : ℕ) → is_some (slice_get (set xs i x) j) ≡ is_some (slice_get xs j)
set_some [] i x j = refl
set_some (y ∷ ys) zero x zero = refl
set_some (y ∷ ys) zero x (suc j) = refl
set_some (y ∷ ys) (suc i) x zero = refl
set_some (y ∷ ys) (suc i) x (suc j) = set_some ys i x j

set_any : {A : Type 0} (f : A → Bool) (xs : List A) (i : ℕ) (x y : A) → slice_get xs i ≡ Some x → f y ≡ f x → list_any f (set xs i y) ≡ list_any f xs
set_any f [] i x y get is = refl
set_any f (z ∷ zs) zero x y get is = ap (λ (b : Bool). b || list_any f zs) (is ∙ ap f (sym (some_is z x get)))
set_any f (z ∷ zs) (suc i) x y get is = ap (λ (b : Bool). f z || b) (set_any f zs i x y get is)

nth_some : (all : List KeptAsk) (at : ℕ) (new : KeptAsk) (a : ℕ) → is_some (nth (set all at new) a) ≡ is_some (nth all a)
nth_some all at new zero = refl
nth_some all at new (suc i) = set_some all at new i

-- the ask of a row changes
pub lost_set : (all : List KeptAsk) (rows : List AskRow) (index at : ℕ) (r : AskRow) (new : KeptAsk) → slice_get rows index ≡ Some r → is_lost (set all at new) (set rows index (row r.place new)) ≡ is_lost all rows
lost_set all rows index at r new get = fun_ext (λ a. (λ j. nth_some all at new a j && not (set_any (λ (x : AskRow). x.place + 1 == a) rows index r (row r.place new) get refl j)))

same_next : (m n : ℕ) → (m == n) ≡ (suc m == suc n)
same_next m n = elim (cases_Bool (m == n)) [
  | inl e ↦ (let is : m ≡ n = eqb-true m n e in e ∙ sym (eq-eqb (suc m) (suc n) (omega (arith, is))))
  | inr e ↦ e ∙ sym (ne_eqb (suc m) (suc n) (λ is. (let same : m ≡ n = omega (arith, is) in let bad : true ≡ false = sym (eq-eqb m n same) ∙ e in absurd (cc bad))))
]

push_some : {A : Type 0} (xs : List A) (x : A) (i : ℕ) → is_some (slice_get (xs ++ x ∷ []) i) ≡ (is_some (slice_get xs i) || length xs == i)
push_some [] x zero = refl
push_some [] x (suc i) = sym (ne_eqb zero (suc i) (λ e. omega (arith, e)))
push_some (y ∷ ys) x zero = refl
push_some (y ∷ ys) x (suc i) = push_some ys x i ∙ ap (λ (b : Bool). is_some (slice_get ys i) || b) (same_next (length ys) i)

past_none : {A : Type 0} (xs : List A) (i : ℕ) → i ≡ length xs → is_some (slice_get xs i) ≡ false
past_none [] i h = refl
past_none (y ∷ ys) zero h = absurd (omega (arith, h))
past_none (y ∷ ys) (suc i) h = past_none ys i (omega (arith, h))

one_more : (made had e f : Bool) → e ≡ f → (e ≡ true → made ≡ false) → ((made || e) && not (had || (f || false))) ≡ (made && not had)
one_more true had true true is none = absurd (cc (none refl))
one_more false true true true is none = refl
one_more false false true true is none = refl
one_more true true false false is none = refl
one_more true false false false is none = refl
one_more false had false false is none = refl
one_more made had true false is none = absurd (cc)
one_more made had false true is none = absurd (cc)

lost_more : (all : List KeptAsk) (rows : List AskRow) (n : ℕ) (new : KeptAsk) (a : ℕ) → n ≡ length all → is_lost (all ++ new ∷ []) (rows ++ row n new ∷ []) a ≡ is_lost all rows a
lost_more all rows n new zero h = refl
lost_more all rows n new (suc i) h =
    let next : suc (length all) ≡ n + 1 = omega (arith, h) in
    (λ j. push_some all new i j && not (list_any-append (λ (x : AskRow). x.place + 1 == suc i) rows (row n new ∷ []) j))
    ∙ one_more (is_some (slice_get all i)) (has_row rows (suc i)) (length all == i) (n + 1 == suc i) (same_next (length all) i ∙ ap (λ (m : ℕ). m == suc i) next) (λ e. past_none all i (sym (eqb-true (length all) i e)))

-- an ask is made
pub lost_push : (all : List KeptAsk) (rows : List AskRow) (n : ℕ) (new : KeptAsk) → n ≡ length all → is_lost (all ++ new ∷ []) (rows ++ row n new ∷ []) ≡ is_lost all rows
lost_push all rows n new h = fun_ext (λ a. lost_more all rows n new a h)

-- what a filter took that a test finds
taken_step : (p f : AskRow → Bool) (x : AskRow) (xs : List AskRow) (b c : Bool) → p x ≡ b → f x ≡ c → list_any f (x ∷ xs) ≡ true → list_any f (filter p (x ∷ xs)) ≡ false
    → (list_any f xs ≡ true → list_any f (filter p xs) ≡ false → (r : AskRow) × (f r ≡ true) × (p r ≡ false)) → (r : AskRow) × (f r ≡ true) × (p r ≡ false)
taken_step p f x xs false true stays found has left more = (x, found, stays)
taken_step p f x xs true true stays found has left more =
    let here : true ≡ false = sym (ap (λ (b : Bool). b || list_any f (filter p xs)) found) ∙ sym (ap (λ (b : Bool). list_any f (cond b (x ∷ filter p xs) (filter p xs))) stays) ∙ left in
    absurd (cc here)
taken_step p f x xs true false stays found has left more =
    more (sym (ap (λ (b : Bool). b || list_any f xs) found) ∙ has)
    (sym (ap (λ (b : Bool). b || list_any f (filter p xs)) found) ∙ sym (ap (λ (b : Bool). list_any f (cond b (x ∷ filter p xs) (filter p xs))) stays) ∙ left)
taken_step p f x xs false false stays found has left more =
    more (sym (ap (λ (b : Bool). b || list_any f xs) found) ∙ has)
    (sym (ap (λ (b : Bool). list_any f (cond b (x ∷ filter p xs) (filter p xs))) stays) ∙ left)

taken : (p f : AskRow → Bool) (rows : List AskRow) → list_any f rows ≡ true → list_any f (filter p rows) ≡ false → (r : AskRow) × (f r ≡ true) × (p r ≡ false)
taken p f [] has left = absurd (cc has)
taken p f (x ∷ xs) has left = taken_step p f x xs (p x) (f x) refl refl has left (taken p f xs)

fewer : (xs : List KeptAsk) (m : ℕ) → endings (drop m xs) ≤ endings xs
fewer xs zero = omega arith
fewer [] (suc m) = omega arith
fewer (x ∷ xs) (suc m) = more_counts (is_over x) (endings (drop m xs)) (endings xs) (fewer xs m)

later_fewer : (xs : List KeptAsk) (a m : ℕ) → a ≤ m → endings (drop m xs) ≤ endings (drop a xs)
later_fewer xs zero m h = fewer xs m
later_fewer xs (suc a) zero h = absurd (omega (arith, h))
later_fewer [] (suc a) (suc m) h = omega arith
later_fewer (x ∷ xs) (suc a) (suc m) h = later_fewer xs a m (omega (arith, h))

and_left : (b c : Bool) → (b && c) ≡ true → (b ≡ true) × (c ≡ true)
and_left true true h = (refl, refl)
and_left true false h = absurd (cc)
and_left false c h = absurd (cc)

-- after the rows before one are filtered
pub lost_filter : (all : List KeptAsk) (rows : List AskRow) (p : AskRow → Bool) (first : ℕ) (x : AskRow) → HaveRows all 0 rows → slice_get rows first ≡ Some x → ((r : AskRow) → p r ≡ false → r.place < x.place)
    → (a : ℕ) → is_lost all (filter p rows) a ≡ true → (is_lost all rows a ≡ true) ⊎ (row_endings (drop first rows) ≤ endings_after a all)
lost_filter all rows p first x h get early a lost =
    let both = and_left (is_some (nth all a)) (not (has_row (filter p rows) a)) lost in
    elim (cases_Bool (has_row rows a)) [
      | inl had ↦ (
          let gone : has_row (filter p rows) a ≡ false = grind arith in
          let (r, is, left) = taken p (λ (y : AskRow). y.place + 1 == a) rows had gone in
          let number : r.place + 1 ≡ a = eqb-true (r.place + 1) a is in
          let before = early r left in
          let at = placed all 0 rows first x h get in
          let some = later_fewer all a at.at (omega (arith, number, before, at.place)) in
          inr (omega (arith, some, at.later)))
      | inr none ↦ inl ((λ j. is_some (nth all a) && not (none j)) ∙ ap (λ (b : Bool). b && true) both.0)
    ]

-- what callers are told

has_one : {A : Type 0} (f : A → Bool) (xs : List A) (i : ℕ) (x : A) → slice_get xs i ≡ Some x → f x ≡ true → list_any f xs ≡ true
has_one f [] i x get is = absurd (cc get)
has_one f (y ∷ ys) zero x get is = ap (λ (b : Bool). b || list_any f ys) (ap f (some_is y x get) ∙ is)
has_one f (y ∷ ys) (suc i) x get is = found_later (f y) (list_any f ys) (has_one f ys i x get is)
  where
    found_later : (b c : Bool) → c ≡ true → (b || c) ≡ true
    found_later true c e = refl
    found_later false c e = e

none_left : (b h : Bool) → h ≡ true → (b && not h) ≡ false
none_left true true e = refl
none_left true false e = absurd (cc)
none_left false h e = refl

-- an ask that has a row is not lost
pub row_told : (all : List KeptAsk) (rows : List AskRow) (a index : ℕ) → IsRowOfAsk rows a index → is_lost all rows a ≡ false
row_told all rows a index k = none_left (is_some (nth all a)) (has_row rows a) (has_one (λ (r : AskRow). r.place + 1 == a) rows index k.at k.get (eq-eqb (k.at.place + 1) a (sym k.number)))

pub lost_told : (o : Option KeptAsk) (h : Bool) → h ≡ false → is_some o ≡ true → Some told.Forgotten ≡ option_map (told_unless (is_some o && not h)) o
lost_told None h e made = absurd (cc made)
lost_told (Some s) true e made = absurd (cc e)
lost_told (Some s) false e made = refl

pub none_told : (o : Option KeptAsk) (h : Bool) → is_some o ≡ false → None ≡ option_map (told_unless (is_some o && not h)) o
none_told None h made = refl
none_told (Some s) h made = absurd (cc made)

pub none_out : (o : Option KeptAsk) (h : Bool) → h ≡ false → None ≡ way_out_unless (is_some o && not h) o
none_out None h e = refl
none_out (Some s) true e = absurd (cc e)
none_out (Some s) false e = refl
