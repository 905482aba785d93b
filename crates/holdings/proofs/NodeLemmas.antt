-- The nodes that were retired.
use mathlib.Core.Path.{fun_ext}
use Rattle.std.proofs.Common.{◌≡◌, ℕ, zero, suc, ◌<◌, List, [], ◌∷◌, Bool, true, false, ◌||◌, eqb, eq-eqb, cond, length, get_or, map, Result, Ok, Err, refl, sym, ◌∙◌, ap, subst, inl, inr, arith}
use Rattle.std.specs.Prelude.{MatchResult, is_ok}
use Rattle.std.specs.List.{insert}
use Rattle.std.specs.List.Sorted.{IsStrictlyIncreasing}
use Rattle.std.proofs.Math.Bool.{or-true}
use Rattle.std.proofs.lemmas.Bool.{cases_eq, ne_eqb}
use Rattle.names.specs.declared.number.NodeId.{NodeId}
use Rattle.protocol.specs.Lists.{put}
use Rattle.protocol.proofs.Leases.{flip_false}
use Rattle.holdings.specs.Places.{IsPlace, IsGap}
use Rattle.holdings.specs.Lives.{is_among}
use Rattle.holdings.proofs.PlaceLemmas.{NoneBelow, map-insert, insert_rises, none_in_gap}

abbrev pub numbers : List NodeId → List ℕ
numbers nodes = map (λ node. node.0) nodes

stands : (ns : List NodeId) (n k : ℕ) → k < length (numbers ns) → get_or (numbers ns) k 0 ≡ n → is_among ns n ≡ true
stands [] n k inside at = absurd (omega arith)
stands (x ∷ ns) n zero inside at = (let here : eqb x.0 n ≡ true = eq-eqb x.0 n at in rw here refl)
stands (x ∷ ns) n (suc k) inside at = (let rest = stands ns n k (omega arith) at in rw rest (or-true (eqb x.0 n)))

lacks : (ns : List NodeId) (n : ℕ) → NoneBelow n (numbers ns) (length (numbers ns)) → is_among ns n ≡ false
lacks [] n none = refl
lacks (x ∷ ns) n none =
    let other : eqb x.0 n ≡ false = ne_eqb x.0 n (none 0 (omega arith)) in
    rw other (lacks ns n (λ i lt. none (suc i) (omega arith)))

pub among-place : (ns : List NodeId) (n k : ℕ) → IsPlace n (numbers ns) k → is_among ns n ≡ true
among-place ns n k place = stands ns n k place.inside place.number

-- what a search for a node says
pub among-searched : (ns : List NodeId) (n : ℕ) (r : Result ℕ ℕ) → MatchResult r (IsPlace n (numbers ns)) (IsGap n (numbers ns)) → is_ok r ≡ is_among ns n
among-searched ns n (Ok k) place = sym (among-place ns n k place)
among-searched ns n (Err k) gap = sym (lacks ns n (none_in_gap n (numbers ns) k gap))

-- a node that is among them is put there again
pub among-again : (ns : List NodeId) (n : ℕ) → is_among ns n ≡ true → is_among ns ≡ put n true (is_among ns)
among-again ns n there = fun_ext (λ j. elim (cases_eq j n) [
  | inl e ↦ (let here : eqb j n ≡ true = eq-eqb j n e in rw here (ap (is_among ns) e ∙ there))
  | inr ne ↦ (let other : eqb j n ≡ false = ne_eqb j n ne in rw other refl)
])

more : (b : Bool) (ns : List NodeId) (k : ℕ) (x : NodeId) (j : ℕ) → eqb j x.0 ≡ b → is_among (insert ns k x) j ≡ cond b true (is_among ns j)
more true ns zero x j is = (let same = flip_false x.0 j ∙ is in rw same refl)
more false ns zero x j is = (let other = flip_false x.0 j ∙ is in rw other refl)
more true [] (suc k) x j is = (let same = flip_false x.0 j ∙ is in rw same refl)
more false [] (suc k) x j is = (let other = flip_false x.0 j ∙ is in rw other refl)
more true (y ∷ ns) (suc k) x j is = (let rest = more true ns k x j is in rw rest (or-true (eqb y.0 j)))
more false (y ∷ ns) (suc k) x j is = ap (λ b. eqb y.0 j || b) (more false ns k x j is)

pub among-insert : (ns : List NodeId) (k : ℕ) (x : NodeId) → is_among (insert ns k x) ≡ put x.0 true (is_among ns)
among-insert ns k x = fun_ext (λ j. more (eqb j x.0) ns k x j refl)

pub nodes-insert : (ns : List NodeId) (k : ℕ) (x : NodeId) → IsStrictlyIncreasing (numbers ns) → IsGap x.0 (numbers ns) k → IsStrictlyIncreasing (numbers (insert ns k x))
nodes-insert ns k x up gap = subst IsStrictlyIncreasing (sym (map-insert (λ (y : NodeId). y.0) ns k x)) (insert_rises x.0 (numbers ns) k up gap)
