-- What the words after a verb say.
use Rattle.std.proofs.Common.{◌≡◌, ℕ, ◌+◌, ◌<◌, true, false, Bool, List, [], ◌∷◌, map, length, get_or, sym, ◌∙◌, arith}
use Rattle.std.specs.List.{All, AllAdjacentBelow, IsAllAdjacentAnswer}
use Rattle.std.specs.List.Sorted.{IsStrictlySortedBy}
use Rattle.std.specs.Ordering.{is_lt}
use Rattle.std.proofs.lemmas.List.{get_or-map, length-map}
use Rattle.std.proofs.lemmas.Map.Keys.{sorted_from_all_adjacent, Less-from_sorted}
use Rattle.names.specs.Slots.{slot_cmp}
use Rattle.names.proofs.CompareLaws.{slot_total}
use Rattle.farm_base.proofs.WantLemmas.{less-from_is_lt, not_less}
use Rattle.schedule.specs.Lines.{left_text, left_slots, IsLeft, Left}
use Rattle.schedule.specs.Words.{SpellLefts}
use Rattle.words.proofs.ListLemmas.{map-injective}
use Rattle.schedule.proofs.Spelling.{left_text-injective}

-- where each slot is below the next
pub rising-from_answer : (lefts : List Left) → AllAdjacentBelow (λ a b. true ≡ is_lt (slot_cmp a.slot b.slot)) lefts (length lefts)
    → IsStrictlySortedBy slot_cmp (left_slots lefts)
unfolding IsStrictlySortedBy
rising-from_answer [] h = tt
rising-from_answer (l ∷ lefts) h = sorted_from_all_adjacent slot_total (left_slots (l ∷ lefts)) l.slot (λ k lt.
    let inside : k + 1 < length (l ∷ lefts) = omega (arith, length-map (l ∷ lefts) (λ (x : Left). x.slot)) in
    let this = get_or-map (λ (x : Left). x.slot) (l ∷ lefts) k l l.slot (omega arith) in
    let next = get_or-map (λ (x : Left). x.slot) (l ∷ lefts) (k + 1) l l.slot (omega arith) in
    rw (this, next) (less-from_is_lt _ (h k l inside)))

-- slots of which one isn't below the next don't rise
falling-from_answer : (lefts : List Left) (k : ℕ) → k + 1 < length lefts
    → ((d : Left) → false ≡ is_lt (slot_cmp (get_or lefts k d).slot (get_or lefts (k + 1) d).slot)) → IsStrictlySortedBy slot_cmp (left_slots lefts) → ⊥
falling-from_answer [] k lt falls rising = absurd (omega arith)
falling-from_answer (l ∷ lefts) k lt falls rising =
    let len = length-map (l ∷ lefts) (λ (x : Left). x.slot) in
    let less = Less-from_sorted slot_cmp (left_slots (l ∷ lefts)) k (k + 1) l.slot rising (omega arith) (omega arith) in
    let this = get_or-map (λ (x : Left). x.slot) (l ∷ lefts) k l l.slot (omega arith) in
    let next = get_or-map (λ (x : Left). x.slot) (l ∷ lefts) (k + 1) l l.slot (omega arith) in
    let below = rw (this, next) at less in
    not_less _ (falls l) below

abbrev pub IsRising : List Left → Bool → Type 0
IsRising lefts answer = IsAllAdjacentAnswer (λ a b answer. answer ≡ is_lt (slot_cmp a.slot b.slot)) lefts answer

pub rising : (lefts : List Left) (answer : Bool) → IsRising lefts answer → answer ≡ true → IsStrictlySortedBy slot_cmp (left_slots lefts)
rising lefts true h e = rising-from_answer lefts h
rising lefts false h e = absurd (cc e)

-- no words say slots that don't rise
pub not_rising : (ws : List (List ℕ)) (given lefts : List Left) (answer : Bool) → IsRising given answer → answer ≡ false
    → All IsLeft given → ws ≡ map left_text given → SpellLefts ws lefts → ⊥
not_rising ws given lefts true h answered each e is = cc answered
not_rising ws given lefts false h answered each e is =
    let same : given ≡ lefts = map-injective left_text IsLeft left_text-injective given lefts each is.each (sym e ∙ is.text) in
    falling-from_answer given h.0 h.1 h.2 (rw same is.rising)
