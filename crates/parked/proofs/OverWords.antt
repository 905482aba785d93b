-- Items that are looked at in order, but for those at these places.
use Rattle.std.proofs.Common.{◌≡◌, ℕ, zero, suc, ◌<◌, ◌≤◌, ◌+◌, ◌-◌, List, [], ◌∷◌, true, false, eqb, eq-eqb, get_or, length, drop, refl, sym, ◌∙◌, ap, subst, inl, inr, arith}
use Rattle.std.proofs.lemmas.Bool.{cases_Bool, cases_eq, cases_lt, ne_eqb}
use Rattle.protocol.specs.Lists.{In}
use Rattle.holdings.proofs.PlaceLemmas.{drop-item}
use Rattle.parked.specs.Over.{is_over_at, later_over, Begins, AreRising, still_at}
use Rattle.parked.proofs.WaitingWords.{begins-before, stays-first}

pub begins-zero : (over : List ℕ) → Begins 0 over
begins-zero [] = tt
begins-zero (o ∷ os) = omega arith

-- ---- asks from a place on, but for those at these places

-- one that comes before the first of the places is among them
still_has : {A : Type 0} (xs : List A) (over : List ℕ) (from n : ℕ) (d : A) → from + n < length xs → Begins (from + n + 1) over → In (get_or xs (from + n) d) (still_at from over (drop from xs))
still_has xs over from zero d inside begins =
    let same : from + 0 ≡ from = omega arith in
    let is : still_at from over (drop from xs) ≡ get_or xs from d ∷ still_at (from + 1) over (drop (from + 1) xs) =
    ap (still_at from over) (drop-item xs from d (omega arith)) ∙ stays-first from over (get_or xs from d) (drop (from + 1) xs) (subst (λ m. Begins (m + 1) over) same begins) in
    subst (λ m. In (get_or xs m d) (still_at from over (drop from xs))) (sym same) (subst (In (get_or xs from d)) (sym is) (inl refl))
still_has xs over from (suc n) d inside begins =
    let to : from + 1 + n ≡ from + suc n = omega arith in
    let is : still_at from over (drop from xs) ≡ get_or xs from d ∷ still_at (from + 1) over (drop (from + 1) xs) =
    ap (still_at from over) (drop-item xs from d (omega arith)) ∙ stays-first from over (get_or xs from d) (drop (from + 1) xs) (begins-before (from + 1) (from + suc n + 1) over (omega arith) begins) in
    let rest : In (get_or xs (from + suc n) d) (still_at (from + 1) over (drop (from + 1) xs)) =
    subst (λ m. In (get_or xs m d) (still_at (from + 1) over (drop (from + 1) xs))) to (still_has xs over (from + 1) n d (omega arith) (subst (λ m. Begins (m + 1) over) (sym to) begins)) in
    subst (In (get_or xs (from + suc n) d)) (sym is) (inr rest)

pub still-has : {A : Type 0} (xs : List A) (over : List ℕ) (from to k : ℕ) (d : A) → from ≤ k → k < to → to ≤ length xs → Begins to over → In (get_or xs k d) (still_at from over (drop from xs))
still-has xs over from to k d low high inside begins =
    let same : from + (k - from) ≡ k = omega arith in
    subst (λ m. In (get_or xs m d) (still_at from over (drop from xs))) same (still_has xs over from (k - from) d (omega arith) (begins-before (from + (k - from) + 1) to over (omega arith) begins))

-- those from a later place on are among them
still_more : {A : Type 0} (xs : List A) (over : List ℕ) (from n : ℕ) (x d : A) → from + n ≤ length xs → Begins (from + n) over → In x (still_at (from + n) over (drop (from + n) xs)) → In x (still_at from over (drop from xs))
still_more xs over from zero x d inside begins i = (let same : from + 0 ≡ from = omega arith in subst (λ m. In x (still_at m over (drop m xs))) same i)
still_more xs over from (suc n) x d inside begins i =
    let to : from + 1 + n ≡ from + suc n = omega arith in
    let is : still_at from over (drop from xs) ≡ get_or xs from d ∷ still_at (from + 1) over (drop (from + 1) xs) =
    ap (still_at from over) (drop-item xs from d (omega arith)) ∙ stays-first from over (get_or xs from d) (drop (from + 1) xs) (begins-before (from + 1) (from + suc n) over (omega arith) begins) in
    subst (In x) (sym is) (inr (still_more xs over (from + 1) n x d (omega arith) (subst (λ m. Begins m over) (sym to) begins) (subst (λ m. In x (still_at m over (drop m xs))) (sym to) i)))

pub still-more : {A : Type 0} (xs : List A) (over : List ℕ) (from to : ℕ) (x d : A) → from ≤ to → to ≤ length xs → Begins to over → In x (still_at to over (drop to xs)) → In x (still_at from over (drop from xs))
still-more xs over from to x d le inside begins i =
    let same : from + (to - from) ≡ to = omega arith in
    still_more xs over from (to - from) x d (omega arith) (subst (λ m. Begins m over) (sym same) begins) (subst (λ m. In x (still_at m over (drop m xs))) (sym same) i)

-- those behind one of them are among them
pub still-behind : {A : Type 0} (i : ℕ) (over : List ℕ) (x p : A) (xs : List A) → In x (still_at (i + 1) (later_over i over) xs) → In x (still_at i over (p ∷ xs))
still-behind i over x p xs h = elim (cases_Bool (is_over_at i over)) [ inl t ↦ rw t h | inr f ↦ rw f (inr h) ]

-- ---- the places behind one

pub begins-later : (i : ℕ) (over : List ℕ) → Begins i over → AreRising over → Begins (i + 1) (later_over i over)
begins-later i [] begins rising = tt
begins-later i (o ∷ os) begins rising = elim (cases_eq o i) [
  | inl e ↦ (let here : eqb o i ≡ true = eq-eqb o i e in rw here (behind os (λ j inside. (let less = rising 0 (suc j) (omega arith) (omega arith) in omega arith))))
  | inr ne ↦ (let other : eqb o i ≡ false = ne_eqb o i ne in rw other (elim (cases_lt i o) [ inl lt ↦ omega arith | inr ge ↦ absurd (ne (omega arith)) ]))
]
  where
    behind : (os : List ℕ) → ((j : ℕ) → j < length os → i < get_or os j 0) → Begins (i + 1) os
    behind [] h = tt
    behind (x ∷ xs) h = (let less = h 0 (omega arith) in omega arith)

pub rising-later : (i : ℕ) (over : List ℕ) → AreRising over → AreRising (later_over i over)
rising-later i [] rising = rising
rising-later i (o ∷ os) rising = elim (cases_Bool (eqb o i)) [
  | inl t ↦ rw t (λ j k less inside. rising (suc j) (suc k) (omega arith) (omega arith))
  | inr f ↦ rw f rising
]
