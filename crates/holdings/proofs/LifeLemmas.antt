-- The lives of nodes, and a life that is set.
use mathlib.Core.Path.{fun_ext}
use Rattle.std.proofs.Common.{◌≡◌, ◌≢◌, ℕ, zero, suc, ◌<◌, ◌≤◌, List, [], ◌∷◌, true, false, eqb, eq-eqb, cond, length, get_or, map, set, refl, sym, ◌∙◌, subst, inl, inr, arith}
use Rattle.std.specs.List.{insert}
use Rattle.std.specs.List.Sorted.{IsStrictlyIncreasing}
use Rattle.std.proofs.lemmas.Bool.{cases_eq, ne_eqb}
use Rattle.std.proofs.Math.Seq.{map-set_same}
use Rattle.std.proofs.lemmas.List.{get_or-map, length-map}
use Rattle.std.proofs.lemmas.List.Elements.{All-cons, All-set}
use Rattle.std.proofs.lemmas.List.Sorted.{All-permutation, IsPermutation-insert}
use Rattle.farm_base.specs.declared.lease.NodeLife.{NodeLife}
use Rattle.protocol.specs.Lists.{put}
use Rattle.protocol.proofs.Leases.{flip_false}
use Rattle.holdings.specs.Lives.{AreLives}
use Rattle.holdings.specs.Places.{IsPlace, IsGap}
use Rattle.holdings.specs.Lives.{life_at}
use Rattle.holdings.proofs.PlaceLemmas.{NoneBelow, map-insert, insert_rises, none_below_gap, none_below_place, none_in_gap}

abbrev pub nodes_of : List NodeLife → List ℕ
nodes_of lives = map (λ x. x.node.0) lives

-- ---- the life of a node

first_life : (ls : List NodeLife) (n k : ℕ) (d : NodeLife) → NoneBelow n (nodes_of ls) k → k < length ls → get_or (nodes_of ls) k 0 ≡ n → life_at ls n ≡ (get_or ls k d).life.0
first_life [] n k d none inside at = absurd (omega arith)
first_life (x ∷ ls) n zero d none inside at = (let same : eqb x.node.0 n ≡ true = eq-eqb x.node.0 n at in rw same refl)
first_life (x ∷ ls) n (suc k) d none inside at =
    let other : eqb x.node.0 n ≡ false = ne_eqb x.node.0 n (none 0 (omega arith)) in
    rw other (first_life ls n k d (λ i lt. none (suc i) (omega arith)) (omega arith) at)

no_life : (ls : List NodeLife) (n : ℕ) → NoneBelow n (nodes_of ls) (length (nodes_of ls)) → life_at ls n ≡ 0
no_life [] n none = refl
no_life (x ∷ ls) n none =
    let other : eqb x.node.0 n ≡ false = ne_eqb x.node.0 n (none 0 (omega arith)) in
    rw other (no_life ls n (λ i lt. none (suc i) (omega arith)))

pub life_at-place : (ls : List NodeLife) (n k : ℕ) (d : NodeLife) → AreLives ls → IsPlace n (nodes_of ls) k → life_at ls n ≡ (get_or ls k d).life.0
life_at-place ls n k d sound place =
    let len = length-map ls (λ (x : NodeLife). x.node.0) in
    let inside = place.inside in
    first_life ls n k d (none_below_place n (nodes_of ls) k sound.rise place) (omega arith) place.number

pub life_at-gap : (ls : List NodeLife) (n k : ℕ) → IsGap n (nodes_of ls) k → life_at ls n ≡ 0
life_at-gap ls n k gap = no_life ls n (none_in_gap n (nodes_of ls) k gap)

-- ---- a life that is set

-- at the front
put_first : (ls : List NodeLife) (x : NodeLife) (j : ℕ) → life_at (x ∷ ls) j ≡ put x.node.0 x.life.0 (life_at ls) j
put_first ls x j = (let flips = flip_false x.node.0 j in rw flips refl)

-- behind a life of another node
put_behind : (y x : NodeLife) (new old j : ℕ) → y.node.0 ≢ x.node.0 → new ≡ cond (eqb j x.node.0) x.life.0 old
    → cond (eqb y.node.0 j) y.life.0 new ≡ cond (eqb j x.node.0) x.life.0 (cond (eqb y.node.0 j) y.life.0 old)
put_behind y x new old j apart rest = elim (cases_eq y.node.0 j) [
  | inl e ↦ (let here : eqb y.node.0 j ≡ true = eq-eqb y.node.0 j e in let other : eqb j x.node.0 ≡ false = ne_eqb j x.node.0 (λ h. apart (e ∙ h)) in rw (here, other) refl)
  | inr ne ↦ (let there : eqb y.node.0 j ≡ false = ne_eqb y.node.0 j ne in rw there rest)
]

insert_at : (ls : List NodeLife) (k : ℕ) (x : NodeLife) (j : ℕ) → NoneBelow x.node.0 (nodes_of ls) k → life_at (insert ls k x) j ≡ put x.node.0 x.life.0 (life_at ls) j
insert_at ls zero x j none = put_first ls x j
insert_at [] (suc k) x j none = put_first [] x j
insert_at (y ∷ ls) (suc k) x j none = put_behind y x (life_at (insert ls k x) j) (life_at ls j) j (none 0 (omega arith)) (insert_at ls k x j (λ i lt. none (suc i) (omega arith)))

set_at : (ls : List NodeLife) (k : ℕ) (x : NodeLife) (j : ℕ) → NoneBelow x.node.0 (nodes_of ls) k → k < length (nodes_of ls) → get_or (nodes_of ls) k 0 ≡ x.node.0 → life_at (set ls k x) j ≡ put x.node.0 x.life.0 (life_at ls) j
set_at [] k x j none inside at = absurd (omega arith)
set_at (y ∷ ls) zero x j none inside at = elim (cases_eq j x.node.0) [
  | inl e ↦ (let new : eqb x.node.0 j ≡ true = eq-eqb x.node.0 j (sym e) in let is : eqb j x.node.0 ≡ true = eq-eqb j x.node.0 e in rw (new, is) refl)
  | inr ne ↦
      let new : eqb x.node.0 j ≡ false = ne_eqb x.node.0 j (λ h. ne (sym h)) in
      let is : eqb j x.node.0 ≡ false = ne_eqb j x.node.0 ne in
      let old : eqb y.node.0 j ≡ false = ne_eqb y.node.0 j (λ h. ne (sym h ∙ at)) in
      rw (new, is, old) refl
]
set_at (y ∷ ls) (suc k) x j none inside at = put_behind y x (life_at (set ls k x) j) (life_at ls j) j (none 0 (omega arith)) (set_at ls k x j (λ i lt. none (suc i) (omega arith)) (omega arith) at)

pub life_at-insert : (ls : List NodeLife) (k : ℕ) (x : NodeLife) → IsGap x.node.0 (nodes_of ls) k → life_at (insert ls k x) ≡ put x.node.0 x.life.0 (life_at ls)
life_at-insert ls k x gap = fun_ext (λ j. insert_at ls k x j (none_below_gap x.node.0 (nodes_of ls) k gap))

pub life_at-set : (ls : List NodeLife) (k : ℕ) (x : NodeLife) → AreLives ls → IsPlace x.node.0 (nodes_of ls) k → life_at (set ls k x) ≡ put x.node.0 x.life.0 (life_at ls)
life_at-set ls k x sound place = fun_ext (λ j. set_at ls k x j (none_below_place x.node.0 (nodes_of ls) k sound.rise place) place.inside place.number)

-- ---- lives in order

pub lives-insert : (ls : List NodeLife) (k : ℕ) (x : NodeLife) → AreLives ls → IsGap x.node.0 (nodes_of ls) k → 1 ≤ x.life.0 → AreLives (insert ls k x)
lives-insert ls k x sound gap counted = record {
  rise = subst IsStrictlyIncreasing (sym (map-insert (λ (y : NodeLife). y.node.0) ls k x)) (insert_rises x.node.0 (nodes_of ls) k sound.rise gap);
  counted = All-permutation (λ (y : NodeLife). 1 ≤ y.life.0) (x ∷ ls) (insert ls k x) (IsPermutation-insert ls k x) (All-cons (λ (y : NodeLife). 1 ≤ y.life.0) x ls counted sound.counted);
}

pub lives-set : (ls : List NodeLife) (k : ℕ) (x : NodeLife) → AreLives ls → IsPlace x.node.0 (nodes_of ls) k → 1 ≤ x.life.0 → AreLives (set ls k x)
lives-set ls k x sound place counted =
    let len = length-map ls (λ (y : NodeLife). y.node.0) in
    let inside = place.inside in
    let same : x.node.0 ≡ (get_or ls k x).node.0 = sym place.number ∙ get_or-map (λ (y : NodeLife). y.node.0) ls k x 0 (omega arith) in
    record {
      rise = subst IsStrictlyIncreasing (sym (map-set_same (λ (y : NodeLife). y.node.0) ls k x x same)) sound.rise;
      counted = All-set (λ (y : NodeLife). 1 ≤ y.life.0) ls k x counted sound.counted;
    }
