-- Two lists of rising slots with the same slots are one.
use Rattle.std.proofs.Common.{◌≡◌, Bool, true, false, ◌||◌, List, [], ◌∷◌, refl, sym, ap, ◌∙◌, subst, inl, inr}
use Rattle.std.proofs.lemmas.Bool.{cases_Bool}
use Rattle.std.specs.List.{list_any, AllByRecursion}
use Rattle.std.specs.List.Sorted.{IsStrictlySortedBy}
use Rattle.std.proofs.lemmas.Map.Keys.{sorted_head, sorted_tail}
use Rattle.std.specs.declared.cmp.Ordering.{Ordering}
use Rattle.std.specs.declared.cmp.Ordering.TheVariants.{Less, Equal, Greater}
use Rattle.names.specs.Slots.{slot_cmp}
use Rattle.names.proofs.CompareLaws.{slot_total, slot_cmp-tie}
use Rattle.protocol.specs.Names.{Slot, slot_eq}
use Rattle.protocol.proofs.Base.{slot_eq_same, slot_eq_is}
use Rattle.versions.proofs.Ordered.{reversed, apart_back}

abbrev has : List Slot → Slot → Bool
has slots s = list_any (λ x. slot_eq x s) slots

neither : (p q : Bool) → p ≡ false → q ≡ false → (p || q) ≡ false
neither p q e f = rw (e, f) refl

-- a slot below all isn't among them
none_below : (s : Slot) (ys : List Slot) → AllByRecursion (λ y. slot_cmp s y ≡ Less) ys → has ys s ≡ false
none_below s [] h = refl
none_below s (y ∷ ys) h = neither (slot_eq y s) (has ys s) (apart_back s y h.0) (none_below s ys h.1)

further : (x y : Slot) (ys : List Slot) → slot_cmp x y ≡ Less → AllByRecursion (λ z. slot_cmp y z ≡ Less) ys → AllByRecursion (λ z. slot_cmp x z ≡ Less) ys
further x y [] lt h = tt
further x y (z ∷ ys) lt h = (slot_total.trans x y z lt h.0, further x y ys lt h.1)

first_has : (x : Slot) (xs : List Slot) → has (x ∷ xs) x ≡ true
first_has x xs = ap (λ (b : Bool). b || has xs x) (slot_eq_same x)

never : (b : Bool) → b ≡ true → b ≡ false → ⊥
never b e f = cc

lowest : (x y : Slot) (ys : List Slot) → IsStrictlySortedBy slot_cmp (y ∷ ys) → slot_cmp x y ≡ Less → has (y ∷ ys) x ≡ false
lowest x y ys h lt = neither (slot_eq y x) (has ys x) (apart_back x y lt) (none_below x ys (further x y ys lt (sorted_head slot_cmp y ys h)))

heads : (o : Ordering) (x y : Slot) (xs ys : List Slot) → slot_cmp x y ≡ o → IsStrictlySortedBy slot_cmp (x ∷ xs) → IsStrictlySortedBy slot_cmp (y ∷ ys) → ((s : Slot) → has (x ∷ xs) s ≡ has (y ∷ ys) s) → x ≡ y
heads Less x y xs ys e hx hy same = absurd (never (has (y ∷ ys) x) (sym (same x) ∙ first_has x xs) (lowest x y ys hy e))
heads Equal x y xs ys e hx hy same = slot_cmp-tie x y e
heads Greater x y xs ys e hx hy same = absurd (never (has (x ∷ xs) y) (same y ∙ first_has y ys) (lowest y x xs hx (reversed x y Greater e)))

tails : (x s : Slot) (xs ys : List Slot) → IsStrictlySortedBy slot_cmp (x ∷ xs) → IsStrictlySortedBy slot_cmp (x ∷ ys) → has (x ∷ xs) s ≡ has (x ∷ ys) s → has xs s ≡ has ys s
tails x s xs ys hx hy same = elim (cases_Bool (slot_eq x s)) [
  | inl here ↦ (let is : x ≡ s = slot_eq_is x s here in subst (λ (z : Slot). has xs z ≡ has ys z) is (none_below x xs (sorted_head slot_cmp x xs hx) ∙ sym (none_below x ys (sorted_head slot_cmp x ys hy))))
  | inr other ↦ sym (ap (λ (b : Bool). b || has xs s) other) ∙ same ∙ ap (λ (b : Bool). b || has ys s) other
]

pub slots_same : (a b : List Slot) → IsStrictlySortedBy slot_cmp a → IsStrictlySortedBy slot_cmp b → ((s : Slot) → has a s ≡ has b s) → a ≡ b
slots_same [] [] ha hb same = refl
slots_same [] (y ∷ ys) ha hb same = absurd (never (has (y ∷ ys) y) (first_has y ys) (sym (same y)))
slots_same (x ∷ xs) [] ha hb same = absurd (never (has (x ∷ xs) x) (first_has x xs) (same x))
slots_same (x ∷ xs) (y ∷ ys) ha hb same =
    let first : x ≡ y = heads (slot_cmp x y) x y xs ys refl ha hb same in
    let hy : IsStrictlySortedBy slot_cmp (x ∷ ys) = subst (λ (z : Slot). IsStrictlySortedBy slot_cmp (z ∷ ys)) (sym first) hb in
    let all : ((s : Slot) → has (x ∷ xs) s ≡ has (x ∷ ys) s) = subst (λ (z : Slot). (s : Slot) → has (x ∷ xs) s ≡ has (z ∷ ys) s) (sym first) same in
    let rest : xs ≡ ys = slots_same xs ys (sorted_tail slot_cmp x xs ha) (sorted_tail slot_cmp x ys hy) (λ s. tails x s xs ys ha hy (all s)) in
    λ j. first j ∷ rest j
