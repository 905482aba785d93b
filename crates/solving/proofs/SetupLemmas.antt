-- Whether all of a list pass a test, an item at a time.
use Rattle.std.proofs.Common.{◌≡◌, ◌<◌, ◌+◌, ℕ, Bool, true, false, List, ◌∷◌, length, drop, get_or, refl, sym, ◌∙◌, ap}
use Rattle.std.proofs.lemmas.List.{drop_more}
use Rattle.std.specs.List.{list_all}

-- an item passes, so the others tell
pub all-next : {A : Type 0} (test : A → Bool) (xs : List A) (i : ℕ) (x : A) → i < length xs → x ≡ get_or xs i x → test x ≡ true → list_all test (drop i xs) ≡ list_all test xs → list_all test (drop (i + 1) xs) ≡ list_all test xs
all-next test xs i x inside is passes all =
    let own : test (get_or xs i x) ≡ true = ap test (sym is) ∙ passes in
    let here : list_all test (get_or xs i x ∷ drop (i + 1) xs) ≡ list_all test (drop (i + 1) xs) = rw own refl in
    sym here ∙ ap (list_all test) (sym (drop_more xs i x inside)) ∙ all

-- an item doesn't pass
pub not-all : {A : Type 0} (test : A → Bool) (xs : List A) (i : ℕ) (x : A) → i < length xs → x ≡ get_or xs i x → test x ≡ false → list_all test (drop i xs) ≡ list_all test xs → false ≡ list_all test xs
not-all test xs i x inside is fails all =
    let own : test (get_or xs i x) ≡ false = ap test (sym is) ∙ fails in
    let here : list_all test (get_or xs i x ∷ drop (i + 1) xs) ≡ false = rw own refl in
    sym here ∙ ap (list_all test) (sym (drop_more xs i x inside)) ∙ all
