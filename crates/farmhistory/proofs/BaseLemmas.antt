-- What is stored of all bases is stored of each.
use Rattle.std.proofs.Common.{◌≡◌, ℕ, zero, suc, Bool, true, false, ◌&&◌, List, [], ◌∷◌, Some, slice_get, refl, ap, sym, ◌∙◌}
use Rattle.std.specs.List.{list_all}

-- what holds of all holds of each
pub all_at : {A : Type 0} (p : A → Bool) (xs : List A) (i : ℕ) (x : A) → list_all p xs ≡ true → slice_get xs i ≡ Some x → p x ≡ true
all_at p [] i x all at = absurd (cc)
all_at p (y ∷ ys) zero x all at = (let same : y ≡ x = cc in ap p (sym same) ∙ front (p y) (list_all p ys) all)
  where
    front : (a b : Bool) → (a && b) ≡ true → a ≡ true
    front true b h = refl
    front false b h = h
all_at p (y ∷ ys) (suc i) x all at = all_at p ys i x (rest (p y) (list_all p ys) all) at
  where
    rest : (a b : Bool) → (a && b) ≡ true → b ≡ true
    rest true b h = h
    rest false b h = absurd (cc)
