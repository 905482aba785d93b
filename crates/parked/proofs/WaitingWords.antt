-- The asks that wait, with the changes of one event.
use Rattle.std.proofs.Common.{◌≡◌, ◌≤◌, ◌<◌, ◌+◌, ℕ, zero, suc, Bool, true, false, not, ◌||◌, ◌&&◌, cond, eqb, List, [], ◌∷◌, ◌++◌, filter, get_or, length, length-append, append_assoc, refl, sym, ◌∙◌, ap, inl, inr, arith}
use Rattle.std.proofs.lemmas.Bool.{ne_eqb, cases_lt}
use Rattle.std.proofs.lemmas.Bool.Decides.{nat_tests}
use Rattle.std.specs.List.{list_any}
use Rattle.protocol.specs.Machine.{Parked}
use Rattle.parked.specs.Over.{is_over_at, later_over, Begins, still_at}

-- an ask that is never looked at
abbrev pub any_ask : Parked
any_ask = record { node = record { 0 = 0 }; life = record { 0 = 0 }; ask = record { 0 = 0 }; wants = []; tenure = false }

-- where no place is told all stay
pub still-none : {A : Type 0} (i : ℕ) (xs : List A) → still_at i [] xs ≡ xs
still-none i [] = refl
still-none i (x ∷ xs) = ap (λ ys. x ∷ ys) (still-none (i + 1) xs)

pub begins-before : (i j : ℕ) (os : List ℕ) → i ≤ j → Begins j os → Begins i os
begins-before i j [] le b = tt
begins-before i j (o ∷ os) le b = omega arith

-- what is at the first of the places is over
pub over-first : {A : Type 0} (i : ℕ) (os : List ℕ) (x : A) (xs : List A) → still_at i (i ∷ os) (x ∷ xs) ≡ still_at (i + 1) os xs
over-first i os x xs = (let yes : eqb i i ≡ true = grind (arith, nat_tests) in rw yes refl)

-- what is before the first of the places stays
pub stays-first : {A : Type 0} (i : ℕ) (os : List ℕ) (x : A) (xs : List A) → Begins (i + 1) os → still_at i os (x ∷ xs) ≡ x ∷ still_at (i + 1) os xs
stays-first i [] x xs b = refl
stays-first i (o ∷ os) x xs b = (let no : eqb o i ≡ false = ne_eqb o i (λ e. omega arith) in rw no refl)

-- what passes a test among those that wait
pub any-still : (test : Parked → Bool) (i : ℕ) (os : List ℕ) (p : Parked) (ps : List Parked) (b : Bool) → b ≡ is_over_at i os
    → list_any test (still_at i os (p ∷ ps)) ≡ ((not b && test p) || list_any test (still_at (i + 1) (later_over i os) ps))
any-still test i os p ps true e = ap (λ (b : Bool). list_any test (cond b (still_at (i + 1) (later_over i os) ps) (p ∷ still_at (i + 1) (later_over i os) ps))) (sym e)
any-still test i os p ps false e = ap (λ (b : Bool). list_any test (cond b (still_at (i + 1) (later_over i os) ps) (p ∷ still_at (i + 1) (later_over i os) ps))) (sym e)

-- one place more, of the asks that this test ends
pub ended-next : (ends : Parked → Bool) (i : ℕ) (os ms : List ℕ) (p : Parked) (ps : List Parked) (b o : Bool) → b ≡ is_over_at i os → o ≡ (b || ends p) → Begins (i + 1) ms
    → still_at (i + 1) ms ps ≡ filter (λ q. not (ends q)) (still_at (i + 1) (later_over i os) ps)
    → still_at i (cond o (i ∷ ms) ms) (p ∷ ps) ≡ filter (λ q. not (ends q)) (still_at i os (p ∷ ps))
ended-next ends i os ms p ps true true e f begins h =
    over-first i ms p ps ∙ h ∙ ap (λ (x : Bool). filter (λ q. not (ends q)) (cond x (still_at (i + 1) (later_over i os) ps) (p ∷ still_at (i + 1) (later_over i os) ps))) e
ended-next ends i os ms p ps true false e f begins h = (let bad : false ≡ true = f in absurd (cc bad))
ended-next ends i os ms p ps false true e f begins h =
    let ended : ends p ≡ true = sym f in
    let rest : List Parked = still_at (i + 1) (later_over i os) ps in
    over-first i ms p ps ∙ h ∙ sym (ap (λ (x : Bool). cond (not x) (p ∷ filter (λ q. not (ends q)) rest) (filter (λ q. not (ends q)) rest)) ended)
    ∙ ap (λ (x : Bool). filter (λ q. not (ends q)) (cond x rest (p ∷ rest))) e
ended-next ends i os ms p ps false false e f begins h =
    let stay : ends p ≡ false = sym f in
    let rest : List Parked = still_at (i + 1) (later_over i os) ps in
    stays-first i ms p ps begins ∙ ap (λ (qs : List Parked). p ∷ qs) h
    ∙ sym (ap (λ (x : Bool). cond (not x) (p ∷ filter (λ q. not (ends q)) rest) (filter (λ q. not (ends q)) rest)) stay)
    ∙ ap (λ (x : Bool). filter (λ q. not (ends q)) (cond x rest (p ∷ rest))) e

-- ---- places that are noted in turn

-- those behind, if this one is noted or not
pub noted-append : (o : Bool) (i : ℕ) (done now ms : List ℕ) → now ≡ cond o (done ++ i ∷ []) done → now ++ ms ≡ done ++ cond o (i ∷ ms) ms
noted-append true i done now ms e = ap (λ (os : List ℕ). os ++ ms) e ∙ append_assoc done (i ∷ []) ms
noted-append false i done now ms e = ap (λ (os : List ℕ). os ++ ms) e

pub begins-noted : (o : Bool) (i : ℕ) (ms : List ℕ) → Begins (i + 1) ms → Begins i (cond o (i ∷ ms) ms)
begins-noted true i ms b = omega arith
begins-noted false i ms b = begins-before i (i + 1) ms (omega arith) b

-- all of them are before the next
pub noted-below : (o : Bool) (i : ℕ) (done now : List ℕ) (k : ℕ) → now ≡ cond o (done ++ i ∷ []) done → ((j : ℕ) → j < length done → get_or done j 0 < i) → k < length now → get_or now k 0 < i + 1
noted-below true i done now k e below inside =
    let len : length now ≡ length done + 1 = ap length e ∙ length-append done (i ∷ []) in
    elim (cases_lt k (length done)) [
      | inl lt ↦ (let less = below k lt in let is : get_or now k 0 ≡ get_or done k 0 = ap (λ (os : List ℕ). get_or os k 0) e ∙ get_or-append-left done (i ∷ []) k 0 lt in omega arith)
      | inr ge ↦ (
          let last : k ≡ length done = omega arith in
          let is : get_or now k 0 ≡ i = ap (λ (os : List ℕ). get_or os k 0) e ∙ ap (λ (n : ℕ). get_or (done ++ i ∷ []) n 0) last ∙ get_or-last done i in
          omega arith)
    ]
  where
    get_or-append-left : (xs ys : List ℕ) (k : ℕ) (d : ℕ) → k < length xs → get_or (xs ++ ys) k d ≡ get_or xs k d
    get_or-append-left [] ys k d h = absurd (omega arith)
    get_or-append-left (x ∷ xs) ys zero d h = refl
    get_or-append-left (x ∷ xs) ys (suc k) d h = get_or-append-left xs ys k d (omega arith)

    get_or-last : (xs : List ℕ) (x : ℕ) → get_or (xs ++ x ∷ []) (length xs) 0 ≡ x
    get_or-last [] x = refl
    get_or-last (y ∷ xs) x = get_or-last xs x
noted-below false i done now k e below inside = (let len : length now ≡ length done = ap length e in let less = below k (omega arith) in let is : get_or now k 0 ≡ get_or done k 0 = ap (λ (os : List ℕ). get_or os k 0) e in omega arith)
