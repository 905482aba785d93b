-- A path below a directory begins with the directory's.
use Rattle.std.proofs.Common.{◌≡◌, ℕ, ◌==◌, ◌&&◌, Bool, true, false, List, [], ◌∷◌, length, take, drop, refl, sym, ap, ◌∙◌}
use Rattle.std.specs.Str.{bytes_eq}
use Rattle.merging.specs.Listings.{is_below}

pub below_is : (dir path : List ℕ) → is_below dir path ≡ (bytes_eq (take (length dir) path) dir && is_below [] (drop (length dir) path))
below_is [] path = refl
below_is (a ∷ dir) [] = refl
below_is (a ∷ dir) (b ∷ path) = by_test (b == a) (below_is dir path)
  where
    by_test : (t : Bool) → is_below dir path ≡ (bytes_eq (take (length dir) path) dir && is_below [] (drop (length dir) path))
        → (t && is_below dir path) ≡ ((t && bytes_eq (take (length dir) path) dir) && is_below [] (drop (length dir) path))
    by_test true h = h
    by_test false h = refl

pub below_not : (dir path : List ℕ) → bytes_eq (take (length dir) path) dir ≡ false → false ≡ is_below dir path
below_not dir path h = sym (below_is dir path ∙ ap (λ (b : Bool). b && is_below [] (drop (length dir) path)) h)

pub below_rest : (dir path rest : List ℕ) → bytes_eq (take (length dir) path) dir ≡ true → rest ≡ drop (length dir) path → is_below [] rest ≡ is_below dir path
below_rest dir path rest h e = ap (is_below []) e ∙ sym (below_is dir path ∙ ap (λ (b : Bool). b && is_below [] (drop (length dir) path)) h)
