-- What is read off the lists of a record.
use Rattle.std.proofs.Common.{◌≡◌, ℕ, zero, suc, ◌<◌, ◌≤◌, List, [], ◌∷◌, ◌⊎◌, Bool, true, false, eqb, length, get_or, map, refl, sym, ap, subst, inl, inr, arith}
use Rattle.std.specs.Prelude.{All}
use Rattle.std.specs.List.{list_all, list_any, AllByRecursion}
use Rattle.std.specs.List.Sorted.{IsStrictlyIncreasing, IsStrictlySortedBy}
use Rattle.std.specs.Ordering.{nat_cmp}
use Rattle.std.specs.declared.cmp.Ordering.TheVariants.{Less}
use Rattle.std.proofs.Math.Bool.{and_assoc}
use Rattle.std.proofs.lemmas.Bool.{cases_Bool, eqb-true, ne_eqb}
use Rattle.std.proofs.lemmas.List.Elements.{All-from_recursion, recursion_from_All}
use Rattle.std.proofs.lemmas.List.Folds.{list_any_none}
use Rattle.std.proofs.lemmas.List.Sums.{list_all-from_AllPass}
use Rattle.std.proofs.lemmas.Map.Keys.{sorted_head, sorted_tail, sorted_from_strictly_increasing}
use Rattle.farm_base.specs.declared.lease.NodeLife.{NodeLife}
use Rattle.lists.proofs.Rising.{less-from_cmp}
use Rattle.protocol.specs.Lists.{In}
use Rattle.protocol.specs.Names.{Slot, slot_eq}
use Rattle.protocol.specs.Ledger.{Lease, is_of}
use Rattle.protocol.proofs.Base.{all_in, eqb_same, in_map, slot_eq_is}
use Rattle.protocol.proofs.Leases.{flip_false}
use Rattle.versions.specs.declared.lines.SlotLine.{SlotLine}
use Rattle.versions.specs.Lines.{line_at}
use Rattle.versions.proofs.Ordered.{Rise, line_at-place}
use Rattle.recordlists.specs.Relations.{is_same_ask}
use Rattle.holdings.specs.Lives.{life_at}

-- ---- what holds of each element

pub in_at : {A : Type 0} (xs : List A) (k : ℕ) (d : A) → k < length xs → In (get_or xs k d) xs
in_at [] k d lt = absurd (omega arith)
in_at (x ∷ xs) zero d lt = inl refl
in_at (x ∷ xs) (suc k) d lt = inr (in_at xs k d (omega arith))

pub all_from_in : {A : Type 0} (P : A → Type 0) (xs : List A) → ((x : A) → In x xs → P x) → All P xs
all_from_in P xs f k d lt = f (get_or xs k d) (in_at xs k d lt)

pub each_in : {A : Type 0} (P : A → Type 0) (xs : List A) → AllByRecursion P xs → (x : A) → In x xs → P x
each_in P xs h = all_in P xs (All-from_recursion P xs h)

pub each_from_in : {A : Type 0} (P : A → Type 0) (xs : List A) → ((x : A) → In x xs → P x) → AllByRecursion P xs
each_from_in P xs f = recursion_from_All P xs (all_from_in P xs f)

pub passes_from_in : {A : Type 0} (test : A → Bool) (xs : List A) → ((x : A) → In x xs → test x ≡ true) → list_all test xs ≡ true
passes_from_in test xs f = list_all-from_AllPass test xs (all_from_in (λ x. test x ≡ true) xs f)

pub none_from_in : {A : Type 0} (test : A → Bool) (xs : List A) → ((x : A) → In x xs → test x ≡ false) → list_any test xs ≡ false
none_from_in test xs f = list_any_none test xs (all_from_in (λ x. test x ≡ false) xs f)

-- ---- lives

by_node : (lives : List NodeLife) → IsStrictlySortedBy nat_cmp (map (λ x. x.node.0) lives) → (x : NodeLife) → In x lives → life_at lives x.node.0 ≡ x.life.0
by_node [] up x i = absurd i
by_node (y ∷ lives) up x (inl e) =
    let same : eqb y.node.0 x.node.0 ≡ true = subst (λ (z : NodeLife). eqb y.node.0 z.node.0 ≡ true) (sym e) (eqb_same y.node.0) in
    rw same (ap (λ (z : NodeLife). z.life.0) (sym e))
by_node (y ∷ lives) up x (inr i) =
    let nodes : List ℕ = map (λ (z : NodeLife). z.node.0) lives in
    let less = each_in (λ n. nat_cmp y.node.0 n ≡ Less) nodes (sorted_head nat_cmp y.node.0 nodes up) x.node.0 (in_map (λ (z : NodeLife). z.node.0) x lives i) in
    let below : y.node.0 < x.node.0 = less-from_cmp y.node.0 x.node.0 less in
    let other : eqb y.node.0 x.node.0 ≡ false = ne_eqb y.node.0 x.node.0 (λ same. omega arith) in
    rw other (by_node lives (sorted_tail nat_cmp y.node.0 nodes up) x i)

-- where nodes rise, the life of a node is that of its entry
pub life_in : (lives : List NodeLife) → IsStrictlyIncreasing (map (λ x. x.node.0) lives) → (x : NodeLife) → In x lives → life_at lives x.node.0 ≡ x.life.0
life_in lives up = by_node lives (sorted_from_strictly_increasing (map (λ (x : NodeLife). x.node.0) lives) up)

-- a node with a life has an entry
pub life_from : (lives : List NodeLife) (n : ℕ) → 1 ≤ life_at lives n → (x : NodeLife) × In x lives × (x.node.0 ≡ n)
life_from [] n some = absurd (omega arith)
life_from (y ∷ lives) n some = elim (cases_Bool (eqb y.node.0 n)) [
  | inl t ↦ (y, inl refl, eqb-true y.node.0 n t)
  | inr f ↦ (let r = life_from lives n (rw f at some) in (r.0, inr r.1, r.2))
]

-- ---- lines

-- where slots rise, the line of a slot is that of its entry
pub line_in : (lines : List SlotLine) → Rise lines → (l : SlotLine) → In l lines → line_at lines l.slot ≡ l.line
line_in lines up = all_in (λ l. line_at lines l.slot ≡ l.line) lines (λ k d lt. line_at-place lines (get_or lines k d).slot k d up lt refl)

-- the line of a slot is empty, or that of an entry
pub line_from : (lines : List SlotLine) (s : Slot) → (line_at lines s ≡ []) ⊎ ((l : SlotLine) × In l lines × (l.slot ≡ s) × (line_at lines s ≡ l.line))
line_from [] s = inl refl
line_from (l ∷ lines) s = elim (cases_Bool (slot_eq l.slot s)) [
  | inl t ↦ inr (l, inl refl, slot_eq_is l.slot s t, rw t refl)
  | inr f ↦ elim (line_from lines s) [
    | inl e ↦ inl (rw f e)
    | inr r ↦ inr (r.0, inr r.1, r.2, rw f r.3)
  ]
]

-- ---- leases

-- two leases have the same node, life and ask
pub same_ask : (g h : Lease) → is_same_ask g h ≡ is_of g.node g.life g.ask h
same_ask g h =
    let n = flip_false g.node.0 h.node.0 in
    let l = flip_false g.life.0 h.life.0 in
    let a = flip_false g.ask.0 h.ask.0 in
    rw (n, l, a) (sym (and_assoc (eqb h.node.0 g.node.0) (eqb h.life.0 g.life.0) (eqb h.ask.0 g.ask.0)))
