-- The table of a node's asks.
use Rattle.std.proofs.Common.{◌≡◌, ◌≢◌, ◌⊎◌, ℕ, zero, suc, ◌+◌, ◌<◌, ◌≤◌, inl, inr, Bool, true, false, not, ◌||◌, cond, List, [], ◌∷◌, ◌++◌, length, set, get_or, drop, Some, slice_get, nat_lt, refl, sym, ap, ◌∙◌, arith}
use Rattle.std.specs.Prelude.{◌==◌}
use Rattle.std.specs.List.{list_any}
use Rattle.std.specs.List.Sorted.{IsPartitionedBy, IsPartitionPoint}
use Rattle.std.proofs.Math.Seq.{drop-cons}
use Rattle.std.proofs.lemmas.Bool.{cases_Bool, eqb-true, ne_eqb}
use Rattle.std.proofs.lemmas.Bool.Decides.{nat_tests}
use Rattle.std.proofs.lemmas.Option.{slice_get-get_or, slice_get_within, get_or_from_slice_get}
use Rattle.events.specs.declared.ask.KeptAsk.{KeptAsk}
use Rattle.nodeasks.specs.declared.ask_row.AskRow.{AskRow}
use Rattle.nodeasks.specs.Rows.{is_over, row, HaveRows, has_row, noted, row_endings}
use Rattle.nodeasks.proofs.RowLemmas.{rising, kept_at, with_ask_in, with_ask_end}

-- the rows from one on that are of asks that are over, by those from the next on
pub endings_back : (rows : List AskRow) (i n : ℕ) (x : AskRow) (b : Bool) → n ≡ i + 1 → i < length rows → x ≡ get_or rows i x → is_over x.kept ≡ b → row_endings (drop i rows) ≡ cond b (row_endings (drop n rows) + 1) (row_endings (drop n rows))
endings_back rows i n x b is inside here over =
    let next : suc i ≡ n = omega (arith, is) in
    let parts : drop i rows ≡ x ∷ drop n rows = drop-cons rows i x inside ∙ (λ j. sym here j ∷ drop (next j) rows) in
    ap row_endings parts ∙ ap (λ (c : Bool). cond c (row_endings (drop n rows) + 1) (row_endings (drop n rows))) over

-- the rows of smaller places come first
pub partitioned : (all : List KeptAsk) (rows : List AskRow) (place : ℕ) → HaveRows all 0 rows → IsPartitionedBy (λ (r : AskRow). nat_lt r.place place) rows
partitioned all rows place h = λ i j d le inside below. elim (cases_Bool (i == j)) [
  | inl e ↦ (let same : i ≡ j = eqb-true i j e in ap (λ (k : ℕ). nat_lt (get_or rows k d).place place) same ∙ below)
  | inr e ↦ (
      let less : i < j = grind (arith, nat_tests) in
      let before = rising all 0 rows i j (get_or rows i d) (get_or rows j d) h less (slice_get-get_or rows i d (omega arith)) (slice_get-get_or rows j d inside) in
      grind (arith, nat_tests))
]

lt_cases : (m n : ℕ) → (m < n) ⊎ (n ≤ m)
lt_cases m n = elim (cases_Bool (nat_lt m n)) [
  | inl e ↦ inl (grind (arith, nat_tests))
  | inr e ↦ inr (grind (arith, nat_tests))
]

none_found : {A : Type 0} (f : A → Bool) (xs : List A) → ((i : ℕ) (x : A) → slice_get xs i ≡ Some x → f x ≡ false) → list_any f xs ≡ false
none_found f [] none = refl
none_found f (x ∷ xs) none = ap (λ (b : Bool). b || list_any f xs) (none 0 x refl) ∙ none_found f xs (λ i y get. none (suc i) y get)

-- no row is that of a place at which the search did not end
other_place : (all : List KeptAsk) (rows : List AskRow) (place i j : ℕ) (x : AskRow) → HaveRows all 0 rows → IsPartitionPoint (λ (r : AskRow). nat_lt r.place place ≡ true) (λ (r : AskRow). nat_lt r.place place ≡ false) rows i
    → ((y : AskRow) → slice_get rows i ≡ Some y → y.place ≢ place) → slice_get rows j ≡ Some x → x.place ≢ place
other_place all rows place i j x h point other get same =
    let inside = slice_get_within rows j x get in
    let read : get_or rows j x ≡ x = get_or_from_slice_get rows j x x get in
    elim (lt_cases j i) [
      | inl before ↦ (let less : nat_lt x.place place ≡ true = sym (ap (λ (r : AskRow). nat_lt r.place place) read) ∙ point.0 j x (omega arith) before in grind (arith, nat_tests))
      | inr after ↦ elim (lt_cases i j) [
        | inl past ↦ (
            let there : slice_get rows i ≡ Some (get_or rows i x) = slice_get-get_or rows i x (omega arith) in
            let up = rising all 0 rows i j (get_or rows i x) x h past there get in
            let not_less : nat_lt (get_or rows i x).place place ≡ false = point.1 i x (omega arith) (omega arith) in
            grind (arith, nat_tests))
        | inr here ↦ (let at : j ≡ i = omega arith in other x (ap (slice_get rows) (sym at) ∙ get) same)
      ]
    ]

pub not_found : (all : List KeptAsk) (rows : List AskRow) (place i : ℕ) → HaveRows all 0 rows → IsPartitionPoint (λ (r : AskRow). nat_lt r.place place ≡ true) (λ (r : AskRow). nat_lt r.place place ≡ false) rows i
    → ((x : AskRow) → slice_get rows i ≡ Some x → x.place ≢ place) → has_row rows (place + 1) ≡ false
not_found all rows place i h point other = none_found (λ (r : AskRow). r.place + 1 == place + 1) rows (λ j x get. ne_eqb (x.place + 1) (place + 1) (λ is.
    let same : x.place ≡ place = omega (arith, is) in
    other_place all rows place i j x h point other get same))

-- no ask has number 0
pub none_zero : (rows : List AskRow) → has_row rows 0 ≡ false
none_zero [] = refl
none_zero (r ∷ rs) = ap (λ (b : Bool). b || has_row rs 0) (ne_eqb (r.place + 1) 0 (λ e. omega (arith, e))) ∙ none_zero rs

pub get_set : {A : Type 0} (xs : List A) (i : ℕ) (x d : A) → i < length xs → get_or (set xs i x) i d ≡ x
get_set [] i x d h = absurd (omega (arith, h))
get_set (y ∷ ys) zero x d h = refl
get_set (y ∷ ys) (suc i) x d h = get_set ys i x d (omega (arith, h))

get_end : {A : Type 0} (xs : List A) (n : ℕ) (x d : A) → n ≡ length xs → get_or (xs ++ x ∷ []) n d ≡ x
get_end [] zero x d h = refl
get_end [] (suc n) x d h = absurd (omega (arith, h))
get_end (y ∷ ys) zero x d h = absurd (omega (arith, h))
get_end (y ∷ ys) (suc n) x d h = get_end ys n x d (omega (arith, h))

-- a row that is changed is noted
pub noted_change : (all : List KeptAsk) (rows : List AskRow) (index : ℕ) (r : AskRow) (new : KeptAsk) (seen : AskRow) (given : List AskRow) (after : List KeptAsk) → HaveRows all 0 rows → slice_get rows index ≡ Some r
    → seen ≡ get_or (set rows index (row r.place new)) index seen → given ≡ seen ∷ [] → after ≡ noted given all → after ≡ set all r.place new
noted_change all rows index r new seen given after h get is one noting =
    let same : seen ≡ row r.place new = is ∙ get_set rows index (row r.place new) seen (slice_get_within rows index r get) in
    noting ∙ ap (λ (l : List AskRow). noted l all) one ∙ ap (λ (x : AskRow). noted (x ∷ []) all) same ∙ with_ask_in all r.place new r.kept (kept_at all rows index r h get)

-- a row that comes to the end is noted
pub noted_push : (all : List KeptAsk) (rows more : List AskRow) (made index : ℕ) (new : KeptAsk) (seen : AskRow) (given : List AskRow) (after : List KeptAsk) → made ≡ length all → index ≡ length rows → more ≡ rows ++ row made new ∷ []
    → seen ≡ get_or more index seen → given ≡ seen ∷ [] → after ≡ noted given all → after ≡ all ++ new ∷ []
noted_push all rows more made index new seen given after counted at pushed is one noting =
    let same : seen ≡ row made new = is ∙ ap (λ (l : List AskRow). get_or l index seen) pushed ∙ get_end rows index (row made new) seen at in
    noting ∙ ap (λ (l : List AskRow). noted l all) one ∙ ap (λ (x : AskRow). noted (x ∷ []) all) same ∙ with_ask_end all made new counted

-- what a row that goes is
pub goes_over : (b over : Bool) → (b || not over) ≡ false → over ≡ true
goes_over true over e = absurd (cc)
goes_over false true e = refl
goes_over false false e = absurd (cc)

pub goes_early : (b c : Bool) → (b || c) ≡ false → b ≡ false
goes_early true c e = absurd (cc)
goes_early false c e = refl
