-- Reading three listings side by side, as the loop does.
use Rattle.std.proofs.Common.{◌≡◌, ℕ, zero, suc, ◌+◌, ◌≤◌, ◌⊎◌, inl, inr, Bool, true, false, cond, List, [], ◌∷◌, ◌++◌, length, Option, Some, None, refl, sym, ap, ◌∙◌, append_assoc, arith}
use Rattle.std.specs.Ordering.{is_lt}
use Rattle.std.specs.Str.{bytes_eq}
use Rattle.std.proofs.lemmas.List.{append-nil}
use Rattle.std.proofs.lemmas.Slice.Eq.{bytes_eq-Decides}
use Rattle.lists.proofs.Places.{some_is}
use Rattle.merging.specs.Choices.{Three}
use Rattle.merging.specs.Listings.{Listing, path_cmp}
use Rattle.merging.specs.Rows.{Side_by_side, first_path, lesser, behind, least_path, row_at, rows_from, rows_in, rows_of}

-- the whole is the rows so far, followed by those of the lines that are left
pub record IsOpen (total front : Side_by_side) (base mine theirs : Listing) : Type 0 where
  pub limit : ℕ
  pub within : length base + length mine + length theirs ≤ limit
  pub so_far : front ++ rows_in limit base mine theirs ≡ total

pub starts : (base mine theirs : Listing) → IsOpen (rows_of base mine theirs) [] base mine theirs
unfolding rows_of
starts base mine theirs = record { limit = length base + length mine + length theirs; within = omega arith; so_far = refl }

-- ---- the least path

pub lesser_some : (a b : Option (List ℕ)) (p : List ℕ) → lesser a b ≡ Some p → (a ≡ Some p) ⊎ (b ≡ Some p)
lesser_some None b p e = inr e
lesser_some (Some x) None p e = inl e
lesser_some (Some x) (Some y) p e = by_test (is_lt (path_cmp y x)) e
  where
    by_test : (t : Bool) → cond t (let z : Option (List ℕ) = Some y in z) (Some x) ≡ Some p → ((let z : Option (List ℕ) = Some x in z) ≡ Some p) ⊎ ((let z : Option (List ℕ) = Some y in z) ≡ Some p)
    by_test true e = inr e
    by_test false e = inl e

pub lesser_none : (a b : Option (List ℕ)) → lesser a b ≡ None → (a ≡ None) × (b ≡ None)
lesser_none None b e = (refl, e)
lesser_none (Some x) None e = absurd (cc)
lesser_none (Some x) (Some y) e = by_test (is_lt (path_cmp y x)) e
  where
    by_test : (t : Bool) → cond t (let z : Option (List ℕ) = Some y in z) (Some x) ≡ None → ((let z : Option (List ℕ) = Some x in z) ≡ None) × ((let z : Option (List ℕ) = Some y in z) ≡ None)
    by_test true e = absurd (cc)
    by_test false e = absurd (cc)

pub first_none : (l : Listing) → first_path l ≡ None → l ≡ []
first_none [] e = refl
first_none (f ∷ fs) e = absurd (cc)

behind_most : (p : List ℕ) (l : Listing) → length (behind p l) ≤ length l
behind_most p [] = omega arith
behind_most p (f ∷ fs) = by_test (bytes_eq f.0 p)
  where
    by_test : (t : Bool) → length (cond t fs (f ∷ fs)) ≤ length (f ∷ fs)
    by_test true = omega arith
    by_test false = omega arith

behind_less : (p : List ℕ) (l : Listing) → first_path l ≡ Some p → length (behind p l) + 1 ≤ length l
behind_less p [] e = absurd (cc)
behind_less p (f ∷ fs) e =
    let is : bytes_eq f.0 p ≡ true = (bytes_eq-Decides f.0 p).1 (some_is f.0 p e) in
    let same : length (behind p (f ∷ fs)) ≡ length fs = ap (λ (t : Bool). length (cond t fs (f ∷ fs))) is in
    omega arith

pub shrinks : (base mine theirs : Listing) (p : List ℕ) → least_path base mine theirs ≡ Some p
    → length (behind p base) + length (behind p mine) + length (behind p theirs) + 1 ≤ length base + length mine + length theirs
shrinks base mine theirs p e =
    let b = behind_most p base in
    let m = behind_most p mine in
    let t = behind_most p theirs in
    elim (lesser_some (lesser (first_path base) (first_path mine)) (first_path theirs) p e) [
      | inr is ↦ let less = behind_less p theirs is in omega arith
      | inl two ↦ elim (lesser_some (first_path base) (first_path mine) p two) [
        | inl is ↦ let less = behind_less p base is in omega arith
        | inr is ↦ let less = behind_less p mine is in omega arith
      ]
    ]

-- ---- rows

pub rows_some : (limit : ℕ) (base mine theirs : Listing) (p : List ℕ) → least_path base mine theirs ≡ Some p
    → rows_in (suc limit) base mine theirs ≡ row_at p base mine theirs ∷ rows_in limit (behind p base) (behind p mine) (behind p theirs)
unfolding rows_in
rows_some limit base mine theirs p e = ap (λ (o : Option (List ℕ)). rows_from o (λ path. row_at path base mine theirs)
    (λ path. rows_in limit (behind path base) (behind path mine) (behind path theirs))) e

pub rows_none : (limit : ℕ) (base mine theirs : Listing) → least_path base mine theirs ≡ None → rows_in limit base mine theirs ≡ []
unfolding rows_in
rows_none zero base mine theirs e = refl
rows_none (suc limit) base mine theirs e = ap (λ (o : Option (List ℕ)). rows_from o (λ path. row_at path base mine theirs)
    (λ path. rows_in limit (behind path base) (behind path mine) (behind path theirs))) e

on : (total front : Side_by_side) (base mine theirs : Listing) (p : List ℕ) (limit : ℕ) → length base + length mine + length theirs ≤ limit
    → front ++ rows_in limit base mine theirs ≡ total → least_path base mine theirs ≡ Some p
    → IsOpen total (front ++ row_at p base mine theirs ∷ []) (behind p base) (behind p mine) (behind p theirs)
on total front base mine theirs p zero within so_far e = (let less = shrinks base mine theirs p e in absurd (omega arith))
on total front base mine theirs p (suc limit) within so_far e =
    let less = shrinks base mine theirs p e in
    let row : List ℕ × Three = row_at p base mine theirs in
    let others : Side_by_side = rows_in limit (behind p base) (behind p mine) (behind p theirs) in
    record {
      limit = limit;
      within = omega arith;
      so_far = append_assoc front (row ∷ []) others ∙ ap (λ (rows : Side_by_side). front ++ rows) (sym (rows_some limit base mine theirs p e)) ∙ so_far;
    }

pub goes_on : (total front : Side_by_side) (base mine theirs : Listing) (p : List ℕ) → IsOpen total front base mine theirs → least_path base mine theirs ≡ Some p
    → IsOpen total (front ++ row_at p base mine theirs ∷ []) (behind p base) (behind p mine) (behind p theirs)
goes_on total front base mine theirs p open_at e = on total front base mine theirs p open_at.limit open_at.within open_at.so_far e

pub is_done : (total front : Side_by_side) (base mine theirs : Listing) → IsOpen total front base mine theirs → least_path base mine theirs ≡ None → front ≡ total
is_done total front base mine theirs open_at e =
    sym (append-nil front) ∙ ap (λ (rows : Side_by_side). front ++ rows) (sym (rows_none open_at.limit base mine theirs e)) ∙ open_at.so_far
