-- Lists that match, element by element.
use Rattle.std.proofs.Common.{◌≡◌, ℕ, zero, suc, List, [], ◌∷◌, length, Some, refl, ap, subst}
use Rattle.std.specs.List.{slice_get, AllZip}

-- lists that match are as long
pub all_zip_length : {A B : Type 0} (R : A → B → Type 0) (xs : List A) (ys : List B) → AllZip R xs ys → length xs ≡ length ys
all_zip_length R [] [] h = refl
all_zip_length R [] (y ∷ ys) h = absurd h
all_zip_length R (x ∷ xs) [] h = absurd h
all_zip_length R (x ∷ xs) (y ∷ ys) h = ap suc (all_zip_length R xs ys h.1)

-- what matches the element at a place
pub all_zip_at : {A B : Type 0} (R : A → B → Type 0) (xs : List A) (ys : List B) (k : ℕ) (x : A) → AllZip R xs ys → slice_get xs k ≡ Some x
    → (y : B) × (slice_get ys k ≡ Some y) × R x y
all_zip_at R [] [] zero x h e = absurd (cc e)
all_zip_at R [] [] (suc k) x h e = absurd (cc e)
all_zip_at R [] (y ∷ ys) k x h e = absurd h
all_zip_at R (a ∷ xs) [] k x h e = absurd h
all_zip_at R (a ∷ xs) (b ∷ ys) zero x h e = let same : a ≡ x = cc e in (b, refl, subst (λ (z : _). R z b) same h.0)
all_zip_at R (a ∷ xs) (b ∷ ys) (suc k) x h e = all_zip_at R xs ys k x h.1 e

pub all_zip_back : {A B : Type 0} (R : A → B → Type 0) (xs : List A) (ys : List B) (k : ℕ) (y : B) → AllZip R xs ys → slice_get ys k ≡ Some y
    → (x : A) × (slice_get xs k ≡ Some x) × R x y
all_zip_back R [] [] zero y h e = absurd (cc e)
all_zip_back R [] [] (suc k) y h e = absurd (cc e)
all_zip_back R [] (b ∷ ys) k y h e = absurd h
all_zip_back R (a ∷ xs) [] k y h e = absurd h
all_zip_back R (a ∷ xs) (b ∷ ys) zero y h e = let same : b ≡ y = cc e in (a, refl, subst (λ (z : _). R a z) same h.0)
all_zip_back R (a ∷ xs) (b ∷ ys) (suc k) y h e = all_zip_back R xs ys k y h.1 e
