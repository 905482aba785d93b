-- Items that are passed over, or taken out.
use Rattle.std.proofs.Common.{◌≡◌, ◌<◌, ◌≤◌, ◌+◌, ◌-◌, ℕ, zero, suc, List, [], ◌∷◌, ◌++◌, length, drop, take, get_or, set, refl, sym, ◌∙◌, ap, subst, inl, inr, arith}
use Rattle.std.specs.List.{swap}
use Rattle.std.proofs.Math.ListN.{drop_of_length-le}
use Rattle.std.proofs.lemmas.Bool.{cases_lt}
use Rattle.std.proofs.lemmas.List.{drop-append-le, drop-set, drop-set-lt, get_or-set_other, length-set}
use Rattle.std.proofs.lemmas.List.Edits.{swap_is}
use Rattle.holdings.proofs.PlaceLemmas.{drop-item}
use Rattle.parked.specs.Over.{Begins, still_at, AreRising}
use Rattle.parked.proofs.WaitingWords.{over-first, stays-first, still-none}

-- an item of a list that has some
pub some_item : {A : Type 0} (xs : List A) → 0 < length xs → A
some_item [] h = absurd (omega arith)
some_item (x ∷ xs) h = x

-- ---- two items in each other's place

-- what comes from the place of the second on begins with the first
drop_second : {A : Type 0} (xs : List A) (i j : ℕ) (d : A) → i ≤ j → j < length xs → drop j (swap xs i j) ≡ get_or xs i d ∷ drop (j + 1) xs
drop_second xs i j d up there =
    let len : length (set xs i (get_or xs j d)) ≡ length xs = length-set xs i (get_or xs j d) in
    ap (drop j) (sym (swap_is xs i j d (omega arith) there))
    ∙ drop-set (set xs i (get_or xs j d)) j (get_or xs i d) (omega arith)
    ∙ ap (λ ps. get_or xs i d ∷ ps) (drop-set-lt (j + 1) xs i (get_or xs j d) (omega arith))

-- what comes before both stays
pub before_both : {A : Type 0} (xs : List A) (i j k : ℕ) (d e : A) → i ≤ j → j < length xs → k < i → get_or (swap xs i j) k e ≡ get_or xs k e
before_both xs i j k d e up there below =
    ap (λ ps. get_or ps k e) (sym (swap_is xs i j d (omega arith) there))
    ∙ get_or-set_other (set xs i (get_or xs j d)) j k (get_or xs i d) e (λ h. omega arith)
    ∙ get_or-set_other xs i k (get_or xs j d) e (λ h. omega arith)

-- ---- the places, from the last on

-- an item at the last of the places that are left
pub over_before : {A : Type 0} (over : List ℕ) (was : List A) (left place from : ℕ) (d : A) → left < length over → from < length was → get_or over left 0 ≡ place
    → still_at place (drop left over) (drop from was) ≡ still_at (place + 1) (drop (left + 1) over) (drop (from + 1) was)
over_before over was left place from d inside there is =
    ap (λ (os : List ℕ). still_at place os (drop from was)) (drop-item over left 0 inside ∙ ap (λ (o : ℕ). o ∷ drop (left + 1) over) is)
    ∙ ap (still_at place (place ∷ drop (left + 1) over)) (drop-item was from d there)
    ∙ over-first place (drop (left + 1) over) (get_or was from d) (drop (from + 1) was)

-- an item that stays moves before those that stay
pub moved_before : {A : Type 0} (os : List ℕ) (was xs : List A) (place from first : ℕ) (d : A) → Begins (place + 1) os → from < length was → from ≤ first → first < length xs
    → get_or xs from d ≡ get_or was from d → drop (first + 1) xs ≡ still_at (place + 1) os (drop (from + 1) was)
    → drop first (swap xs from first) ≡ still_at place os (drop from was)
moved_before os was xs place from first d begins there up last same left =
    drop_second xs from first d up last
    ∙ (λ j. same j ∷ left j)
    ∙ sym (ap (still_at place os) (drop-item was from d there) ∙ stays-first place os (get_or was from d) (drop (from + 1) was) begins)

-- items are put behind the others
pub behind_joined : {A : Type 0} (xs since all : List A) (start : ℕ) → start ≤ length xs → all ≡ xs ++ since → drop start all ≡ drop start xs ++ since
behind_joined xs since all start inside is = ap (drop start) is ∙ drop-append-le start xs since inside

-- ---- one item is taken out

still_one : {A : Type 0} (i o : ℕ) (xs : List A) → o < length xs → still_at i ((i + o) ∷ []) xs ≡ take o xs ++ drop (o + 1) xs
still_one i o [] h = absurd (omega arith)
still_one i zero (x ∷ xs) h =
    let at : i + 0 ≡ i = omega arith in
    ap (λ (n : ℕ). still_at i (n ∷ []) (x ∷ xs)) at ∙ over-first i [] x xs ∙ still-none (i + 1) xs
still_one i (suc o) (x ∷ xs) h =
    let at : i + suc o ≡ i + 1 + o = omega arith in
    let more : suc o + 1 ≡ suc (o + 1) = omega arith in
    stays-first i ((i + suc o) ∷ []) x xs (omega arith)
    ∙ ap (λ (n : ℕ). x ∷ still_at (i + 1) (n ∷ []) xs) at
    ∙ ap (λ ys. x ∷ ys) (still_one (i + 1) o xs (omega arith))
    ∙ ap (λ (n : ℕ). take (suc o) (x ∷ xs) ++ drop n (x ∷ xs)) (sym more)

cut_behind : {A : Type 0} (start o : ℕ) (xs : List A) → start + o < length xs → drop start (take (start + o) xs ++ drop (start + o + 1) xs) ≡ take o (drop start xs) ++ drop (o + 1) (drop start xs)
cut_behind start o [] h = absurd (omega arith)
cut_behind zero o (x ∷ xs) h = (let at : 0 + o ≡ o = omega arith in ap (λ (n : ℕ). take n (x ∷ xs) ++ drop (n + 1) (x ∷ xs)) at)
cut_behind (suc start) o (x ∷ xs) h =
    let at : suc start + o ≡ suc (start + o) = omega arith in
    let more : suc (start + o) + 1 ≡ suc (start + o + 1) = omega arith in
    ap (λ (n : ℕ). drop (suc start) (take n (x ∷ xs) ++ drop (n + 1) (x ∷ xs))) at
    ∙ ap (λ (n : ℕ). drop (suc start) (take (suc (start + o)) (x ∷ xs) ++ drop n (x ∷ xs))) more
    ∙ cut_behind start o xs (omega arith)

-- without one item
pub one_taken : {A : Type 0} (start : ℕ) (over : List ℕ) (xs : List A) → length over ≡ 1 → start + get_or over 0 0 < length xs
    → drop start (take (start + get_or over 0 0) xs ++ drop (start + get_or over 0 0 + 1) xs) ≡ still_at 0 over (drop start xs)
one_taken start [] xs one inside = absurd (omega arith)
one_taken start (o ∷ []) xs one inside =
    let len : length (drop start xs) + start ≡ length xs = dropped_length start xs (omega arith) in
    let at : 0 + o ≡ o = omega arith in
    cut_behind start o xs inside ∙ sym (still_one 0 o (drop start xs) (omega arith)) ∙ ap (λ (n : ℕ). still_at 0 (n ∷ []) (drop start xs)) at
  where
    dropped_length : {A : Type 0} (n : ℕ) (xs : List A) → n ≤ length xs → length (drop n xs) + n ≡ length xs
    dropped_length zero xs h = omega arith
    dropped_length (suc n) [] h = absurd (omega arith)
    dropped_length (suc n) (x ∷ xs) h = (let rest = dropped_length n xs (omega arith) in omega arith)
one_taken start (o ∷ p ∷ os) xs one inside = absurd (omega arith)

-- ---- the places, as they are looked at from the last on

pub other_default : {A : Type 0} (xs : List A) (k : ℕ) (d e : A) → k < length xs → get_or xs k d ≡ get_or xs k e
other_default [] k d e h = absurd (omega arith)
other_default (x ∷ xs) zero d e h = refl
other_default (x ∷ xs) (suc k) d e h = other_default xs k d e (omega arith)

pub begins_at : (place left : ℕ) (over : List ℕ) → (left < length over → place ≤ get_or over left 0) → Begins place (drop left over)
begins_at place left over h = elim (cases_lt left (length over)) [
  | inl lt ↦ subst (Begins place) (sym (drop-item over left 0 lt)) (h lt)
  | inr ge ↦ subst (Begins place) (sym (drop_of_length-le over ge)) tt
]

-- nothing is looked at yet
pub none_looked : {A : Type 0} (over : List ℕ) (left place from : ℕ) (was : List A) → (left < length over → length was ≤ from) → drop from was ≡ still_at place (drop left over) (drop from was)
none_looked over left place from was h = elim (cases_lt left (length over)) [
  | inl lt ↦ (let none = drop_of_length-le was (h lt) in none ∙ sym (ap (still_at place (drop left over)) none))
  | inr ge ↦ sym (ap (λ (os : List ℕ). still_at place os (drop from was)) (drop_of_length-le over ge) ∙ still-none place (drop from was))
]

-- all of the places that are left are below one that is not the last of them
pub below_other : (over : List ℕ) (left place k : ℕ) → AreRising over → left ≤ length over → k < left → (get_or over (left - 1) 0 ≡ place → ⊥) → ((j : ℕ) → j < left → get_or over j 0 < place + 1) → get_or over k 0 < place
below_other over left place k rising inside below other before =
    let last = before (left - 1) (omega arith) in
    elim (cases_lt k (left - 1)) [
      | inl lt ↦ (let less = rising k (left - 1) lt (omega arith) in omega arith)
      | inr ge ↦ (
          let is : k ≡ left - 1 = omega arith in
          let same : get_or over k 0 ≡ get_or over (left - 1) 0 = ap (λ (n : ℕ). get_or over n 0) is in
          elim (cases_lt (get_or over (left - 1) 0) place) [ inl lt ↦ omega arith | inr ge ↦ absurd (other (omega arith)) ])
    ]
