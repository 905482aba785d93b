-- Lists that rise.
use Rattle.std.proofs.Common.{◌≡◌, ℕ, zero, suc, ◌+◌, ◌<◌, ◌⊎◌, inl, inr, Bool, true, List, [], ◌∷◌, ◌++◌, map, length, get_or, Option, Some, None, Ordering, false, refl, sym, ap, ◌∙◌, subst, arith}
use Rattle.std.specs.Cmp.{IsTotalOrder}
use Rattle.std.specs.List.{AllByRecursion, Contains}
use Rattle.std.specs.List.Sorted.{IsStrictlyIncreasing, IsStrictlySortedBy}
use Rattle.std.specs.Ordering.{is_lt, nat_cmp, ordering_reverse}
use Rattle.std.specs.declared.cmp.Ordering.TheVariants.{Less, Equal, Greater}
use Rattle.std.proofs.lemmas.Bool.{cases_lt}
use Rattle.std.proofs.lemmas.Bool.Decides.{nat_tests}
use Rattle.std.proofs.lemmas.List.{get_or_append_left, get_or_push, length_push}
use Rattle.std.proofs.lemmas.List.Elements.{Contains-get_or}
use Rattle.std.proofs.lemmas.Map.Keys.{IsStrictlyIncreasing-from_sorted}
use Rattle.lists.proofs.Places.{Contains-cases, Contains-head, Contains-tail}

pub less-from_is_lt : (o : Ordering) → is_lt o ≡ true → o ≡ Less
less-from_is_lt Less h = refl
less-from_is_lt Equal h = absurd cc
less-from_is_lt Greater h = absurd cc

pub less-from_cmp : (a b : ℕ) → nat_cmp a b ≡ Less → a < b
unfolding IsStrictlySortedBy
less-from_cmp a b h = (IsStrictlyIncreasing-from_sorted (a ∷ b ∷ []) ((h, tt), ((tt, tt)))) 0 (omega arith)

-- a greater number is not below a lower one
pub no_less : (a b : ℕ) → a < b → is_lt (nat_cmp b a) ≡ false
no_less a b h = grind (arith, nat_tests)

-- what stands behind the first of numbers that rise
pub tail_rises : (x : ℕ) (xs : List ℕ) → IsStrictlyIncreasing (x ∷ xs) → IsStrictlyIncreasing xs
tail_rises x xs up k inside = (let e : suc k + 1 ≡ suc (k + 1) = omega arith in rw e at (up (suc k) (omega arith)))

-- numbers that rise, with a greater one at their end
pub rising_push : (xs : List ℕ) (y : ℕ) → IsStrictlyIncreasing xs → ((x : ℕ) → Contains xs x → x < y) → IsStrictlyIncreasing (xs ++ y ∷ [])
rising_push xs y rising below k within =
    let len = length_push xs y in
    elim (cases_lt (suc k) (length xs)) [
      | inl less ↦
          let a = get_or_append_left xs (y ∷ []) 0 k (omega arith) in
          let b = get_or_append_left xs (y ∷ []) 0 (k + 1) (omega arith) in
          let h = rising k (omega arith) in
          omega arith
      | inr more ↦
          let end : length xs ≡ k + 1 = omega arith in
          let a = get_or_append_left xs (y ∷ []) 0 k (omega arith) in
          let b = get_or_push xs y 0 (k + 1) end in
          let h = below (get_or xs k 0) (Contains-get_or xs k 0 (omega arith)) in
          omega arith
    ]

-- ---- lists that rise by a key

module _ {X K : Type 0} (c : K → K → Ordering) (total : IsTotalOrder c) (key : X → K) where
  -- of two keys at most one is below the other
  pub never_below_both : (a b : K) → c a b ≡ Less → c b a ≡ Less → ⊥
  never_below_both a b up down =
      let turned : Less ≡ ordering_reverse Less = sym up ∙ total.antisymm a b ∙ ap ordering_reverse down in
      cc turned

  pub below_each : (k : K) (xs : List X) (x : X) → AllByRecursion (λ other. c k other ≡ Less) (map key xs) → Contains xs x → c k (key x) ≡ Less
  below_each k [] x all (n, less, is) = absurd (omega arith)
  below_each k (y ∷ xs) x all (zero, less, is) = subst (λ (z : X). c k (key z) ≡ Less) is all.0
  below_each k (y ∷ xs) x all (suc n, less, is) = below_each k xs x all.1 (n, omega arith, is)

  -- an element behind the first has another key
  pub behind : (y : X) (xs : List X) (x : X) → AllByRecursion (λ other. c (key y) other ≡ Less) (map key xs) → Contains xs x → key y ≡ key x → ⊥
  behind y xs x all there is =
      let itself : c (key x) (key x) ≡ Less = subst (λ (k : K). c k (key x) ≡ Less) is (below_each (key y) xs x all there) in
      never_below_both (key x) (key x) itself itself

  -- two such lists with the same elements are the same
  pub same_rising : (xs ys : List X) → IsStrictlySortedBy c (map key xs) → IsStrictlySortedBy c (map key ys)
      → ((x : X) → Contains xs x → Contains ys x) → ((x : X) → Contains ys x → Contains xs x) → xs ≡ ys
  unfolding IsStrictlySortedBy
  same_rising [] [] h k to from = refl
  same_rising [] (y ∷ ys) h k to from = let there = from y (Contains-head y ys) in absurd (omega (arith, there.1))
  same_rising (x ∷ xs) [] h k to from = let there = to x (Contains-head x xs) in absurd (omega (arith, there.1))
  same_rising (x ∷ xs) (y ∷ ys) h k to from =
      let same : x ≡ y = first (Contains-cases y ys x (to x (Contains-head x xs))) (Contains-cases x xs y (from y (Contains-head y ys))) in
      let rest : xs ≡ ys = same_rising xs ys h.1 k.1
      (λ z there. elim (Contains-cases y ys z (to z (Contains-tail x xs z there))) [ inl is ↦ absurd (behind x xs z h.0 there (ap key (same ∙ is))) | inr found ↦ found ])
      (λ z there. elim (Contains-cases x xs z (from z (Contains-tail y ys z there))) [ inl is ↦ absurd (behind y ys z k.0 there (ap key (sym same ∙ is))) | inr found ↦ found ]) in
      ap (λ (z : X). z ∷ xs) same ∙ ap (λ (zs : List X). y ∷ zs) rest
    where
      first : (y ≡ x) ⊎ Contains ys x → (x ≡ y) ⊎ Contains xs y → x ≡ y
      first (inl is) back = sym is
      first (inr there) (inl is) = is
      first (inr there) (inr back) = absurd (never_below_both (key x) (key y) (below_each (key x) xs y h.0 back) (below_each (key y) ys x k.0 there))

-- ---- rows: each entry is tested against the one before it

-- each key passes the test against the one before it
abbrev pub Row : {X K : Type 0} → (Option K → K → Bool) → (X → K) → Option K → List X → Type 0
Row above key before [] = Unit {0}
Row above key before (x ∷ xs) = (above before (key x) ≡ true) × Row above key (Some (key x)) xs

-- the test says that a key is above another
pub record Tests {K : Type 0} (above : Option K → K → Bool) (c : K → K → Ordering) : Type 0 where
  pub first : (k : K) → above None k ≡ true
  pub to_less : (b k : K) → above (Some b) k ≡ true → c b k ≡ Less
  pub from_less : (b k : K) → c b k ≡ Less → above (Some b) k ≡ true
  pub trans : (x y z : K) → c x y ≡ Less → c y z ≡ Less → c x z ≡ Less

module _ {X K : Type 0} (above : Option K → K → Bool) (c : K → K → Ordering) (tests : Tests above c) (key : X → K) where
  lift : (b k : K) (ks : List K) → c b k ≡ Less → AllByRecursion (λ y. c k y ≡ Less) ks → AllByRecursion (λ y. c b y ≡ Less) ks
  lift b k [] h all = tt
  lift b k (x ∷ xs) h all = (tests.trans b k x h all.0, lift b k xs h all.1)

  all_above : (b : K) (xs : List X) → Row above key (Some b) xs → AllByRecursion (λ y. c b y ≡ Less) (map key xs)
  all_above b [] row = tt
  all_above b (x ∷ xs) row =
      let h = tests.to_less b (key x) row.0 in
      (h, lift b (key x) (map key xs) h (all_above (key x) xs row.1))

  pub sorted-from_row : (before : Option K) (xs : List X) → Row above key before xs → IsStrictlySortedBy c (map key xs)
  unfolding IsStrictlySortedBy
  sorted-from_row before [] row = tt
  sorted-from_row before (x ∷ xs) row = (all_above (key x) xs row.1, sorted-from_row (Some (key x)) xs row.1)

  row_after : (b : K) (xs : List X) → AllByRecursion (λ y. c b y ≡ Less) (map key xs) → IsStrictlySortedBy c (map key xs) → Row above key (Some b) xs
  unfolding IsStrictlySortedBy
  row_after b [] all sorted = tt
  row_after b (x ∷ xs) all sorted = (tests.from_less b (key x) all.0, row_after (key x) xs sorted.0 sorted.1)

  pub row-from_sorted : (xs : List X) → IsStrictlySortedBy c (map key xs) → Row above key None xs
  unfolding IsStrictlySortedBy
  row-from_sorted [] sorted = tt
  row-from_sorted (x ∷ xs) sorted = (tests.first (key x), row_after (key x) xs sorted.0 sorted.1)
