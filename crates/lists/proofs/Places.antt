-- What stands at the places of a list.
use Rattle.std.proofs.Common.{◌≡◌, ◌≢◌, ℕ, zero, suc, ◌+◌, ◌<◌, ◌⊎◌, inl, inr, List, [], ◌∷◌, ◌++◌, length, take, set, Option, Some, refl, sym, ap, ◌∙◌, arith}
use Rattle.std.specs.List.{AllZip, Contains, slice_get}
use Rattle.std.specs.Str.{bytes_eq}
use Rattle.std.proofs.lemmas.Bool.{cases_Bool, cases_eq, cases_lt}
use Rattle.std.proofs.lemmas.List.{get_or_append_left, get_or_push, length_push, take_more}
use Rattle.std.proofs.lemmas.Option.{slice_get-get_or, slice_get_within, get_or_from_slice_get}
use Rattle.std.proofs.lemmas.Slice.Eq.{bytes_eq-Decides}

-- what two equal options hold
pub some_is : {X : Type 0} (x y : X) → ◌≡◌ {A = Option X} (Some x) (Some y) → x ≡ y
some_is x y e = cc

-- what stands at a place still stands there in a longer list
pub get_front : {X : Type 0} (xs ys : List X) (n : ℕ) (x : X) → slice_get xs n ≡ Some x → slice_get (xs ++ ys) n ≡ Some x
get_front [] ys n x e = absurd (cc)
get_front (y ∷ xs) ys zero x e = e
get_front (y ∷ xs) ys (suc n) x e = get_front xs ys n x e

-- two byte strings are equal or not
pub cases_list : (xs ys : List ℕ) → (xs ≡ ys) ⊎ (xs ≢ ys)
cases_list xs ys = elim (cases_Bool (bytes_eq xs ys)) [
  | inl met ↦ inl ((bytes_eq-Decides xs ys).0 met)
  | inr unmet ↦ inr (λ same. let met = (bytes_eq-Decides xs ys).1 same in cc (met, unmet))
]

-- a place within the list has an element
pub at_place : {X : Type 0} (xs : List X) (k : ℕ) → k < length xs → (x : X) × (slice_get xs k ≡ Some x)
at_place [] k less = absurd (omega arith)
at_place (x ∷ xs) zero less = (x, refl)
at_place (x ∷ xs) (suc k) less = at_place xs k (omega arith)

-- what is at a place is contained
pub Contains-at : {X : Type 0} (xs : List X) (k : ℕ) (x : X) → slice_get xs k ≡ Some x → Contains xs x
Contains-at xs k x e = (k, slice_get_within xs k x e, get_or_from_slice_get xs k x x e)

-- what is contained is at some place
pub at_Contains : {X : Type 0} (xs : List X) (x : X) → Contains xs x → (k : ℕ) × (slice_get xs k ≡ Some x)
at_Contains xs x (k, lt, is) = (k, slice_get-get_or xs k x lt ∙ ap (λ (y : _). Some y) is)

-- the first element, or one behind it
pub Contains-cases : {X : Type 0} (y : X) (xs : List X) (x : X) → Contains (y ∷ xs) x → (y ≡ x) ⊎ Contains xs x
Contains-cases y xs x (zero, lt, is) = inl is
Contains-cases y xs x (suc k, lt, is) = inr (k, omega arith, is)

pub Contains-head : {X : Type 0} (x : X) (xs : List X) → Contains (x ∷ xs) x
Contains-head x xs = (0, omega arith, refl)

pub Contains-tail : {X : Type 0} (y : X) (xs : List X) (x : X) → Contains xs x → Contains (y ∷ xs) x
Contains-tail y xs x (k, lt, is) = (suc k, omega arith, is)

-- ---- one element more

-- an element of a list with one more is an element of the list, or the new one
pub get_push_cases : {X : Type 0} (xs : List X) (y : X) (k : ℕ) (x : X) → slice_get (xs ++ y ∷ []) k ≡ Some x
    → ((k < length xs) × (slice_get xs k ≡ Some x)) ⊎ ((k ≡ length xs) × (y ≡ x))
get_push_cases xs y k x e =
    let within = slice_get_within (xs ++ y ∷ []) k x e in
    let value = get_or_from_slice_get (xs ++ y ∷ []) k x x e in
    let len = length_push xs y in
    elim (cases_lt k (length xs)) [
      | inl less ↦ inl (less, slice_get-get_or xs k x less ∙ ap (λ (z : _). Some z) (sym (get_or_append_left xs (y ∷ []) x k less) ∙ value))
      | inr more ↦ let end : length xs ≡ k = omega arith in inr (sym end, sym (get_or_push xs y x k end) ∙ value)
    ]

-- an element of a list is an element of the list with one more
pub get_push_left : {X : Type 0} (xs : List X) (y : X) (k : ℕ) (x : X) → slice_get xs k ≡ Some x → slice_get (xs ++ y ∷ []) k ≡ Some x
get_push_left xs y k x e =
    let less = slice_get_within xs k x e in
    let len = length_push xs y in
    slice_get-get_or (xs ++ y ∷ []) k x (omega arith) ∙ ap (λ (z : _). Some z) (get_or_append_left xs (y ∷ []) x k less ∙ get_or_from_slice_get xs k x x e)

-- the new element
pub get_push_end : {X : Type 0} (xs : List X) (y : X) → slice_get (xs ++ y ∷ []) (length xs) ≡ Some y
get_push_end [] y = refl
get_push_end (x ∷ xs) y = get_push_end xs y

-- a list up to one place more
pub take_push : {X : Type 0} (xs : List X) (k : ℕ) (x : X) → slice_get xs k ≡ Some x → take (k + 1) xs ≡ take k xs ++ x ∷ []
take_push xs k x e = take_more xs k x (slice_get_within xs k x e) ∙ ap (λ (y : _). take k xs ++ y ∷ []) (get_or_from_slice_get xs k x x e)

-- pairs that match, and one more
pub AllZip-push : {A B : Type 0} (R : A → B → Type 0) (xs : List A) (ys : List B) (x : A) (y : B) → AllZip R xs ys → R x y → AllZip R (xs ++ x ∷ []) (ys ++ y ∷ [])
AllZip-push R [] [] x y h r = (r, tt)
AllZip-push R [] (b ∷ ys) x y h r = absurd h
AllZip-push R (a ∷ xs) [] x y h r = absurd h
AllZip-push R (a ∷ xs) (b ∷ ys) x y h r = (h.0, AllZip-push R xs ys x y h.1 r)

-- ---- one place set

pub get-set_same : {X : Type 0} (xs : List X) (n : ℕ) (x y : X) → slice_get xs n ≡ Some y → slice_get (set xs n x) n ≡ Some x
get-set_same [] n x y h = absurd (cc)
get-set_same (z ∷ xs) zero x y h = refl
get-set_same (z ∷ xs) (suc n) x y h = get-set_same xs n x y h

pub get-set_other : {X : Type 0} (xs : List X) (n m : ℕ) (x : X) → m ≢ n → slice_get (set xs n x) m ≡ slice_get xs m
get-set_other [] n m x apart = refl
get-set_other (y ∷ xs) zero zero x apart = absurd (apart refl)
get-set_other (y ∷ xs) zero (suc m) x apart = refl
get-set_other (y ∷ xs) (suc n) zero x apart = refl
get-set_other (y ∷ xs) (suc n) (suc m) x apart = get-set_other xs n m x (λ e. apart (ap suc e))

-- what stands in a list with one place set
pub get_set_cases : {X : Type 0} (xs : List X) (n m : ℕ) (x was y : X) → slice_get xs n ≡ Some was → slice_get (set xs n x) m ≡ Some y → ((m ≡ n) × (x ≡ y)) ⊎ ((m ≢ n) × (slice_get xs m ≡ Some y))
get_set_cases xs n m x was y there h = elim (cases_eq m n) [
  | inl same ↦ inl (same, some_is x y (sym (get-set_same xs n x was there) ∙ ap (slice_get (set xs n x)) (sym same) ∙ h))
  | inr apart ↦ inr (apart, sym (get-set_other xs n m x apart) ∙ h)
]
