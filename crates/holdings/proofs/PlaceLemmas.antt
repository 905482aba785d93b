-- Places in numbers that rise, and a number that is inserted.
use Rattle.std.proofs.Common.{◌≡◌, ◌≢◌, ℕ, zero, suc, ◌+◌, ◌<◌, ◌≤◌, List, [], ◌∷◌, length, get_or, map, drop, add-one, drop-cons, Result, Ok, Err, refl, ◌∙◌, ap, inl, inr, arith}
use Rattle.std.specs.Prelude.{MatchResult}
use Rattle.std.specs.List.{insert}
use Rattle.std.specs.List.Sorted.{IsStrictlyIncreasing, IsSortedBy, IsSearchInRange, IsBinarySearchResult}
use Rattle.std.specs.Ordering.{nat_cmp, is_lt}
use Rattle.std.specs.declared.cmp.Ordering.TheVariants.{Greater}
use Rattle.std.proofs.lemmas.Bool.{cases_lt}
use Rattle.std.proofs.lemmas.Bool.Decides.{nat_tests}
use Rattle.std.proofs.lemmas.Cmp.{nat_cmp_total}
use Rattle.std.proofs.lemmas.List.{get_or-map, length-map}
use Rattle.std.proofs.lemmas.List.Kept.{AllPairs-from_increasing}
use Rattle.std.proofs.lemmas.List.Sorted.{searchable_from_sorted}
use Rattle.std.proofs.lemmas.Map.Lookups.{exact_unsigned}
use Rattle.lists.proofs.Rising.{less-from_cmp, no_less, tail_rises}
use Rattle.holdings.specs.Places.{IsPlace, IsGap}

from_greater : (a b : ℕ) → nat_cmp a b ≡ Greater → b < a
from_greater a b h = grind (arith, nat_tests)

module _ {X : Type 0} (key : X → ℕ) where
  in_order : (xs : List X) → IsStrictlyIncreasing (map key xs) → IsSortedBy (λ a b. is_lt (nat_cmp (key a) (key b))) xs
  in_order xs up k d low inside =
      let len = length-map xs key in
      let rises = up k (omega arith) in
      let this = get_or-map key xs k d 0 (omega arith) in
      let next = get_or-map key xs (k + 1) d 0 inside in
      no_less (key (get_or xs k d)) (key (get_or xs (k + 1) d)) (rw (← this, ← next) rises)

  -- what a binary search by the number finds
  pub searched : (n : ℕ) (xs : List X) (r : Result ℕ ℕ) → IsStrictlyIncreasing (map key xs) → IsSearchInRange r (length xs) → IsBinarySearchResult (λ x. nat_cmp (key x) n) xs r → MatchResult r (IsPlace n (map key xs)) (IsGap n (map key xs))
  searched n [] (Ok k) up inside at = absurd (omega arith)
  searched n (x ∷ xs) (Ok k) up inside at =
      let len = length-map (x ∷ xs) key in
      record { inside = omega arith; number = get_or-map key (x ∷ xs) k x 0 inside ∙ exact_unsigned _ _ (at x) }
  searched n [] (Err k) up inside parts = record {
    inside = inside;
    below = λ i lt. absurd (omega arith);
    above = λ i low lt. absurd (omega arith);
  }
  searched n (x ∷ xs) (Err k) up inside parts =
      let p = parts (searchable_from_sorted nat_cmp_total key (x ∷ xs) n (in_order (x ∷ xs) up)) in
      let len = length-map (x ∷ xs) key in
      record {
        inside = omega arith;
        below = λ i lt. (let at = get_or-map key (x ∷ xs) i x 0 (omega arith) in rw at (less-from_cmp _ _ (p.0 i x (omega arith) lt)));
        above = λ i low lt. (let at = get_or-map key (x ∷ xs) i x 0 (omega arith) in rw at (from_greater _ _ (p.1 i x low (omega arith))));
      }

pub map-insert : {A B : Type 0} (f : A → B) (xs : List A) (k : ℕ) (x : A) → map f (insert xs k x) ≡ insert (map f xs) k (f x)
map-insert f [] zero x = refl
map-insert f [] (suc k) x = refl
map-insert f (y ∷ xs) zero x = refl
map-insert f (y ∷ xs) (suc k) x = ap (λ zs. f y ∷ zs) (map-insert f xs k x)

-- numbers that rise still rise behind a lower one
cons_rises : (m : ℕ) (ns : List ℕ) → (0 < length ns → m < get_or ns 0 0) → IsStrictlyIncreasing ns → IsStrictlyIncreasing (m ∷ ns)
cons_rises m ns below up zero inside = below (omega arith)
cons_rises m ns below up (suc k) inside = (let e : suc k + 1 ≡ suc (k + 1) = omega arith in rw e (up k (omega arith)))

tail_gap : (n m : ℕ) (ns : List ℕ) (k : ℕ) → IsGap n (m ∷ ns) (suc k) → IsGap n ns k
tail_gap n m ns k gap =
    let inside : suc k ≤ suc (length ns) = gap.inside in
    record {
      inside = omega arith;
      below = λ i lt. gap.below (suc i) (omega arith);
      above = λ i low lt. gap.above (suc i) (omega arith) (omega arith);
    }

-- numbers that rise still rise with one more in its place
pub insert_rises : (n : ℕ) (ns : List ℕ) (k : ℕ) → IsStrictlyIncreasing ns → IsGap n ns k → IsStrictlyIncreasing (insert ns k n)
insert_rises n ns zero up gap = cons_rises n ns (λ some. gap.above 0 (omega arith) some) up
insert_rises n [] (suc k) up gap = (let inside : suc k ≤ 0 = gap.inside in absurd (omega arith))
insert_rises n (m ∷ ns) (suc k) up gap = cons_rises m (insert ns k n) (first ns k up gap) (insert_rises n ns k (tail_rises m ns up) (tail_gap n m ns k gap))
  where
    first : (ns : List ℕ) (k : ℕ) → IsStrictlyIncreasing (m ∷ ns) → IsGap n (m ∷ ns) (suc k) → 0 < length (insert ns k n) → m < get_or (insert ns k n) 0 0
    first ns zero up gap some = gap.below 0 (omega arith)
    first [] (suc k) up gap some = gap.below 0 (omega arith)
    first (p ∷ ns) (suc k) up gap some = up 0 (omega arith)

-- the number stands at none of the places below this one
abbrev pub NoneBelow : ℕ → List ℕ → ℕ → Type 0
NoneBelow n ns k = (i : ℕ) → i < k → get_or ns i 0 ≢ n

pub none_below_gap : (n : ℕ) (ns : List ℕ) (k : ℕ) → IsGap n ns k → NoneBelow n ns k
none_below_gap n ns k gap i lt e = (let below = gap.below i lt in absurd (omega arith))

pub none_below_place : (n : ℕ) (ns : List ℕ) (k : ℕ) → IsStrictlyIncreasing ns → IsPlace n ns k → NoneBelow n ns k
none_below_place n ns k up place i lt e =
    let rises = AllPairs-from_increasing ns up i k 0 lt place.inside in
    let at = place.number in
    absurd (omega arith)

-- a number with a gap stands nowhere
pub none_in_gap : (n : ℕ) (ns : List ℕ) (k : ℕ) → IsGap n ns k → NoneBelow n ns (length ns)
none_in_gap n ns k gap i lt e = elim (cases_lt i k) [
  | inl low ↦ (let below = gap.below i low in absurd (omega arith))
  | inr high ↦ (let above = gap.above i high lt in absurd (omega arith))
]

-- a list from a place on: what stands there, and what follows
pub drop-item : {A : Type 0} (xs : List A) (i : ℕ) (d : A) → i < length xs → drop i xs ≡ get_or xs i d ∷ drop (i + 1) xs
drop-item xs i d h = rw add-one (drop-cons xs i d h)
