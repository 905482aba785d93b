-- Lists, places in them counted from 1, and functions changed at one place.
use Rattle.std.specs.Prelude.{◌≡◌, ℕ, zero, suc, List, [], ◌∷◌, ◌++◌, ◌⊎◌, ◌==◌, Bool, false, true, if◌then◌else◌, Option, None, slice_get, slice_set}

-- x stands in the list
abbrev pub In : {A : Type 0} → A → List A → Type 0
In x [] = ⊥
In x (y ∷ ys) = (x ≡ y) ⊎ In x ys

-- the first list is a front of the second
abbrev pub IsFrontOf : {A : Type 0} → List A → List A → Type 0
IsFrontOf {A} xs ys = (rest : List A) × (ys ≡ xs ++ rest)

-- the k-th element, counted from 1
abbrev pub nth : {A : Type 0} → List A → ℕ → Option A
nth xs zero = None
nth xs (suc k) = slice_get xs k

-- the list with x at place k, counted from 1
abbrev pub set_nth : {A : Type 0} → List A → ℕ → A → List A
set_nth xs zero x = xs
set_nth xs (suc k) x = slice_set xs k x

-- f, with x at k
abbrev pub put : {A : Type 0} → ℕ → A → (ℕ → A) → ℕ → A
put k x f j = if j == k then x else f j

-- the list has nothing
abbrev pub is_nil : {A : Type 0} → List A → Bool
is_nil [] = true
is_nil (x ∷ xs) = false
