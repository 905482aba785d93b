-- Leases that move down to the place of one that goes.
use Rattle.std.proofs.Common.{◌≡◌, ◌<◌, ◌≤◌, ◌+◌, ℕ, List, [], ◌∷◌, ◌++◌, Bool, true, false, not, cond, filter, take, get_or, length, set, sym, ◌∙◌, ap, inl, inr, append-nil, arith}
use Rattle.std.specs.List.{swap}
use Rattle.std.proofs.lemmas.Bool.{cases_lt}
use Rattle.std.proofs.lemmas.List.{take_more_set, take-set-le, get_or-set_other, length-set}
use Rattle.std.proofs.lemmas.List.Edits.{swap_is}
use Rattle.farm_base.specs.declared.lease.Lease.{Lease}
use Rattle.leaseindex.proofs.CountLemmas.{kept_next}

-- what is before the second of two that change places, with it
moved_down : (xs : List Lease) (i j : ℕ) (d : Lease) → i ≤ j → j < length xs → take (i + 1) (swap xs i j) ≡ take i xs ++ get_or xs j d ∷ []
moved_down xs i j d up there =
    let y : Lease = get_or xs j d in
    let z : Lease = get_or xs i d in
    let len = length-set xs i y in
    ap (take (i + 1)) (sym (swap_is xs i j d (omega arith) there))
    ∙ elim (cases_lt i j) [
      | inl lt ↦ take-set-le (i + 1) (set xs i y) j z (omega arith) ∙ take_more_set xs i y (omega arith)
      | inr ge ↦ (
          let same : j ≡ i = omega arith in
          ap (λ (n : ℕ). take (i + 1) (set (set xs i (get_or xs n d)) n z)) same
          ∙ take_more_set (set xs i z) i z (omega (arith, length-set xs i z))
          ∙ ap (λ (gs : List Lease). gs ++ z ∷ []) (take-set-le i xs i z (omega arith))
          ∙ ap (λ (n : ℕ). take i xs ++ get_or xs n d ∷ []) (sym same)
          )
    ]

-- what is behind both
pub moved_later : (xs : List Lease) (i j k : ℕ) (d e : Lease) → i ≤ j → j < length xs → j < k → get_or (swap xs i j) k e ≡ get_or xs k e
moved_later xs i j k d e up there behind =
    ap (λ (gs : List Lease). get_or gs k e) (sym (swap_is xs i j d (omega arith) there))
    ∙ get_or-set_other (set xs i (get_or xs j d)) j k (get_or xs i d) e (λ h. omega arith)
    ∙ get_or-set_other xs i k (get_or xs j d) e (λ h. omega arith)

-- after one that stays
pub stays_next : (gone : Lease → Bool) (was xs : List Lease) (kept place : ℕ) (g : Lease) → kept ≤ place → place < length xs → place < length was → g ≡ get_or was place g → get_or xs place g ≡ get_or was place g → gone g ≡ false
    → take kept xs ≡ filter (λ h. not (gone h)) (take place was) → take (kept + 1) (swap xs kept place) ≡ filter (λ h. not (gone h)) (take (place + 1) was)
stays_next gone was xs kept place g up there inside is same stays left =
    moved_down xs kept place g up there
    ∙ (λ j. left j ++ (same ∙ sym is) j ∷ [])
    ∙ sym (kept_next gone was place g inside is ∙ ap (λ (b : Bool). filter (λ h. not (gone h)) (take place was) ++ cond (not b) (g ∷ []) []) stays)

-- after one that goes
pub goes_next : (gone : Lease → Bool) (was : List Lease) (place : ℕ) (g : Lease) (left : List Lease) → place < length was → g ≡ get_or was place g → gone g ≡ true
    → left ≡ filter (λ h. not (gone h)) (take place was) → left ≡ filter (λ h. not (gone h)) (take (place + 1) was)
goes_next gone was place g left inside is goes so_far =
    so_far
    ∙ sym (kept_next gone was place g inside is ∙ ap (λ (b : Bool). filter (λ h. not (gone h)) (take place was) ++ cond (not b) (g ∷ []) []) goes ∙ append-nil (filter (λ h. not (gone h)) (take place was)))
