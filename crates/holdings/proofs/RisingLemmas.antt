-- Slots that are sorted, each once.
use mathlib.Core.Path.{fun_ext}
use Rattle.std.proofs.Common.{◌≡◌, List, [], ◌∷◌, Bool, true, false, ◌||◌, refl, sym, ◌∙◌, ap, inl, inr}
use Rattle.std.proofs.lemmas.Bool.{cases_Bool}
use Rattle.std.specs.Prelude.{IsPermutation, IsSorted}
use Rattle.std.specs.List.{dedup, dedup_from}
use Rattle.std.specs.List.Sorted.{IsStrictlySortedBy}
use Rattle.std.proofs.lemmas.List.Kept.{IsStrictlySortedBy-dedup}
use Rattle.std.proofs.lemmas.List.Sorted.{list_any-IsPermutation}
use Rattle.names.specs.Slots.{slot_cmp}
use Rattle.names.proofs.CompareLaws as laws
use Rattle.protocol.specs.Names.{Slot, slot_eq}
use Rattle.holdings.specs.Leases.{among}

or_twice : (a b : Bool) → (a || (a || b)) ≡ (a || b)
or_twice true b = refl
or_twice false b = refl

-- a slot that equals the one before it adds nothing
dedup_among : (k : Slot) (xs : List Slot) (s : Slot) → among (dedup_from slot_eq k xs) s ≡ (slot_eq k s || among xs s)
dedup_among k [] s = refl
dedup_among k (x ∷ xs) s = elim (cases_Bool (slot_eq x k)) [
  | inl t ↦ (let same : slot_eq x s ≡ slot_eq k s = ap (λ z. slot_eq z s) (laws.slot_exact x k t) in
      rw t (dedup_among k xs s ∙ sym (or_twice (slot_eq k s) (among xs s)) ∙ ap (λ b. slot_eq k s || (b || among xs s)) (sym same)))
  | inr f ↦ rw f (ap (λ b. slot_eq k s || b) (dedup_among x xs s))
]

among_dedup : (xs : List Slot) (s : Slot) → among (dedup slot_eq xs) s ≡ among xs s
among_dedup [] s = refl
among_dedup (x ∷ xs) s = dedup_among x xs s

-- sorted, each once, they are the same slots
pub among-rising : (xs ys : List Slot) → IsPermutation xs ys → among (dedup slot_eq ys) ≡ among xs
among-rising xs ys p = fun_ext (λ s. among_dedup ys s ∙ sym (list_any-IsPermutation (λ x. slot_eq x s) xs ys p))

pub rises-dedup : (xs : List Slot) → IsSorted slot_cmp xs → IsStrictlySortedBy slot_cmp (dedup slot_eq xs)
rises-dedup xs sorted = IsStrictlySortedBy-dedup laws.slot_total laws.slot_eq-by_cmp xs sorted
