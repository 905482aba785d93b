-- Tickets that rise once they are sorted are all different.
use Rattle.std.proofs.Common.{◌≡◌, ℕ, ◌<◌, List, inl, inr, false, arith}
use Rattle.std.specs.Prelude.{nat_eq}
use Rattle.std.specs.List.{IsDistinct}
use Rattle.std.specs.List.Sorted.{IsPermutation, IsStrictlyIncreasing}
use Rattle.std.proofs.lemmas.Bool.Decides.{eqb_tells}
use Rattle.std.proofs.lemmas.Cmp.{nat_eq_equiv}
use Rattle.std.proofs.lemmas.List.Kept.{AllPairs-from_increasing}
use Rattle.std.proofs.lemmas.List.Sorted.{IsPermutation-sym}
use Rattle.std.proofs.lemmas.Map.Keys.{IsDistinct-from_apart, IsDistinct-IsPermutation}

below_differs : (x y : ℕ) → x < y → nat_eq x y ≡ false
below_differs x y less = elim (eqb_tells x y) [ inl same ↦ (let is = same.1 in absurd (omega (arith, is, less))) | inr apart ↦ apart.0 ]

pub apart_if_sorted_rise : (xs ys : List ℕ) → IsPermutation xs ys → IsStrictlyIncreasing ys → IsDistinct nat_eq xs
apart_if_sorted_rise xs ys moved rises =
    let pairs = AllPairs-from_increasing ys rises in
    IsDistinct-IsPermutation nat_eq nat_eq_equiv.symm ys xs (IsPermutation-sym xs ys moved)
    (IsDistinct-from_apart nat_eq ys (λ i j d less within. below_differs _ _ (pairs i j d less within)))
