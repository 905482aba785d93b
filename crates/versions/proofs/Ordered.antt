-- Lines by rising slot: the place of a slot's line, and adding a line.
use mathlib.Core.Path.{fun_ext}
use Rattle.std.proofs.Common.{◌≡◌, ◌≢◌, ℕ, zero, suc, ◌+◌, ◌<◌, ◌≤◌, List, [], ◌∷◌, ◌++◌, ◌⊎◌, true, false, not, length, get_or, Result, Ok, Err, Ordering, refl, sym, ◌∙◌, ap, subst, inl, inr, arith}
use Rattle.std.proofs.lemmas.Bool.{cases_Bool}
use Rattle.std.proofs.Math.ListN.{set}
use Rattle.std.specs.Prelude.{All, MatchResult}
use Rattle.std.specs.List.{insert, list_any, AllByRecursion}
use Rattle.std.specs.List.Sorted.{IsStrictlySortedBy, IsSortedBy, IsSearchInRange, IsBinarySearchResult}
use Rattle.std.specs.Ordering.{is_lt, is_eq, ordering_reverse}
use Rattle.std.specs.declared.cmp.Ordering.TheVariants.{Less, Greater}
use Rattle.std.proofs.lemmas.List.{get_or-map, length-map}
use Rattle.std.proofs.lemmas.List.Elements.{All-set}
use Rattle.std.proofs.lemmas.List.Sorted.{searchable_from_sorted}
use Rattle.std.proofs.lemmas.Map.Keys.{Less-from_sorted}
use Rattle.names.specs.Slots.{slot_cmp}
use Rattle.names.proofs.CompareLaws as laws
use Rattle.protocol.specs.Lists.{is_nil}
use Rattle.protocol.specs.Names.{Slot, slot_eq}
use Rattle.protocol.specs.Machine.{LineVersion}
use Rattle.versions.specs.declared.lines.SlotLine.{SlotLine}
use Rattle.versions.specs.Line.{IsLine}
use Rattle.versions.specs.Lines.{line_at}
use Rattle.versions.specs.Additions.{adds}
use Rattle.versions.specs.Ordered.{slots, AreLines, IsPlace, IsGap}

abbrev pub Rise : List SlotLine → Type 0
Rise ls = IsStrictlySortedBy slot_cmp (slots ls)

pub reversed : (a b : Slot) (o : Ordering) → slot_cmp a b ≡ o → slot_cmp b a ≡ ordering_reverse o
reversed a b o e = laws.slot_total.antisymm b a ∙ ap ordering_reverse e

no_less : (a b : Slot) → slot_cmp a b ≡ Less → is_lt (slot_cmp b a) ≡ false
no_less a b e = ap is_lt (reversed a b Less e)

less_at : (ls : List SlotLine) (i j : ℕ) (d : SlotLine) → Rise ls → i < j → j < length ls → slot_cmp (get_or ls i d).slot (get_or ls j d).slot ≡ Less
less_at ls i j d up lt inside =
    let inside' : j < length (slots ls) = omega (arith, length-map ls (λ (l : SlotLine). l.slot)) in
    let less = Less-from_sorted slot_cmp (slots ls) i j d.slot up lt inside' in
    let low : get_or (slots ls) i d.slot ≡ (get_or ls i d).slot = get_or-map (λ (l : SlotLine). l.slot) ls i d d.slot (omega arith) in
    let high : get_or (slots ls) j d.slot ≡ (get_or ls j d).slot = get_or-map (λ (l : SlotLine). l.slot) ls j d d.slot inside in
    ap (λ s. slot_cmp s (get_or ls j d).slot) (sym low) ∙ ap (slot_cmp (get_or (slots ls) i d.slot)) (sym high) ∙ less

in_order : (ls : List SlotLine) → Rise ls → IsSortedBy (λ a b. is_lt (slot_cmp a.slot b.slot)) ls
in_order ls up k d low inside = no_less (get_or ls k d).slot (get_or ls (k + 1) d).slot (less_at ls k (k + 1) d up (omega arith) inside)

-- what a binary search by the slot finds
pub searched : (s : Slot) (ls : List SlotLine) (r : Result ℕ ℕ) → Rise ls → IsSearchInRange r (length ls) → IsBinarySearchResult (λ l. slot_cmp l.slot s) ls r → MatchResult r (IsPlace s ls) (IsGap s ls)
searched s ls (Ok k) up inside at = record { inside = inside; slot = λ d. laws.slot_cmp-tie (get_or ls k d).slot s (at d) }
searched s ls (Err k) up inside parts =
    let p = parts (searchable_from_sorted laws.slot_total (λ (l : SlotLine). l.slot) ls s (in_order ls up)) in
    record {
      inside = inside;
      below = λ i d lt. p.0 i d (omega arith) lt;
      above = λ i d low lt. reversed (get_or ls i d).slot s Greater (p.1 i d low lt);
    }

-- ---- the line at a place

apart : (a b : Slot) → slot_cmp a b ≡ Less → slot_eq a b ≡ false
apart a b e = laws.slot_eq-by_cmp a b ∙ ap is_eq e

pub apart_back : (a b : Slot) → slot_cmp a b ≡ Less → slot_eq b a ≡ false
apart_back a b e = laws.slot_eq-by_cmp b a ∙ ap is_eq (reversed a b Less e)

Rise-tail : (l : SlotLine) (ls : List SlotLine) → Rise (l ∷ ls) → Rise ls
unfolding IsStrictlySortedBy
Rise-tail l ls up = up.1

pub line_at-place : (ls : List SlotLine) (s : Slot) (k : ℕ) (d : SlotLine) → Rise ls → k < length ls → (get_or ls k d).slot ≡ s → line_at ls s ≡ (get_or ls k d).line
line_at-place [] s k d up lt e = absurd (omega arith)
line_at-place (l ∷ ls) s zero d up lt e = (let same : slot_eq l.slot s ≡ true = subst (λ z. slot_eq l.slot z ≡ true) e (laws.slot_eq-itself l.slot) in rw same refl)
line_at-place (l ∷ ls) s (suc k) d up lt e =
    let less : slot_cmp l.slot (get_or ls k d).slot ≡ Less = less_at (l ∷ ls) 0 (suc k) d up (omega arith) lt in
    let other : slot_eq l.slot s ≡ false = apart l.slot s (ap (slot_cmp l.slot) (sym e) ∙ less) in
    rw other (line_at-place ls s k d (Rise-tail l ls up) (omega arith) e)

-- the slot has no line
abbrev NoLine : Slot → List SlotLine → Type 0
NoLine s ls = All (λ l. slot_eq l.slot s ≡ false) ls

no_line : (s : Slot) (ls : List SlotLine) → NoLine s ls → line_at ls s ≡ []
no_line s [] h = refl
no_line s (l ∷ ls) h = (let other : slot_eq l.slot s ≡ false = h 0 l (omega arith) in rw other (no_line s ls (λ k d lt. h (suc k) d (omega arith))))

none_in_gap : (s : Slot) (ls : List SlotLine) (k : ℕ) → IsGap s ls k → NoLine s ls
none_in_gap s ls k gap i d lt = elim (split i k) [
  | inl low ↦ apart (get_or ls i d).slot s (gap.below i d low)
  | inr high ↦ apart_back s (get_or ls i d).slot (gap.above i d high lt)
]
  where
    split : (a b : ℕ) → (a < b) ⊎ (b ≤ a)
    split a b = grind arith

pub line_at-gap : (ls : List SlotLine) (s : Slot) (k : ℕ) → IsGap s ls k → line_at ls s ≡ []
line_at-gap ls s k gap = no_line s ls (none_in_gap s ls k gap)

-- ---- adding a line

pub other_slot : (a b : Slot) → slot_eq a b ≡ false → (x : Slot) → slot_eq a x ≡ true → slot_eq b x ≡ false
other_slot a b h x e = elim (cases_Bool (slot_eq b x)) [
  | inl f ↦ (let ab : a ≡ b = laws.slot_exact a x e ∙ sym (laws.slot_exact b x f) in let bad : slot_eq a a ≡ false = subst (λ z. slot_eq a z ≡ false) (sym ab) h in let clash : true ≡ false = sym (laws.slot_eq-itself a) ∙ bad in cc)
  | inr f ↦ f
]

at_head : (ls : List SlotLine) (s x : Slot) (v : LineVersion) → NoLine s ls → line_at (record { slot = s; line = v ∷ [] } ∷ ls) x ≡ adds s v (line_at ls) x
at_head ls s x v none = elim (cases_Bool (slot_eq s x)) [
  | inl e ↦ (let empty : line_at ls x ≡ [] = ap (line_at ls) (sym (laws.slot_exact s x e)) ∙ no_line s ls none in rw (e, empty) refl)
  | inr e ↦ rw e refl
]

inserted_at : (ls : List SlotLine) (k : ℕ) (s x : Slot) (v : LineVersion) → k ≤ length ls → NoLine s ls → line_at (insert ls k (record { slot = s; line = v ∷ [] })) x ≡ adds s v (line_at ls) x
inserted_at [] zero s x v inside none = at_head [] s x v none
inserted_at [] (suc k) s x v inside none = absurd (omega arith)
inserted_at (l ∷ ls) zero s x v inside none = at_head (l ∷ ls) s x v none
inserted_at (l ∷ ls) (suc k) s x v inside none =
    let ih : line_at (insert ls k (record { slot = s; line = v ∷ [] })) x ≡ adds s v (line_at ls) x = inserted_at ls k s x v (omega arith) (λ i d lt. none (suc i) d (omega arith)) in
    let differ : slot_eq l.slot s ≡ false = none 0 l (omega arith) in
    elim (cases_Bool (slot_eq l.slot x)) [
      | inl f ↦ (let n : slot_eq s x ≡ false = other_slot l.slot s differ x f in rw (f, n) refl)
      | inr f ↦ rw f ih
    ]

pub line_at-insert : (ls : List SlotLine) (k : ℕ) (s : Slot) (v : LineVersion) → IsGap s ls k → line_at (insert ls k (record { slot = s; line = v ∷ [] })) ≡ adds s v (line_at ls)
line_at-insert ls k s v gap = fun_ext (λ x. inserted_at ls k s x v gap.inside (none_in_gap s ls k gap))

below_insert : (P : Slot → Type 0) (ls : List SlotLine) (k : ℕ) (n : SlotLine) → AllByRecursion P (slots ls) → P n.slot → AllByRecursion P (slots (insert ls k n))
below_insert P [] zero n all here = (here, tt)
below_insert P [] (suc k) n all here = (here, tt)
below_insert P (l ∷ ls) zero n all here = (here, all)
below_insert P (l ∷ ls) (suc k) n all here = (all.0, below_insert P ls k n all.1 here)

all_above : (s : Slot) (ls : List SlotLine) → ((i : ℕ) (d : SlotLine) → i < length ls → slot_cmp s (get_or ls i d).slot ≡ Less) → AllByRecursion (λ x. slot_cmp s x ≡ Less) (slots ls)
all_above s [] h = tt
all_above s (l ∷ ls) h = (h 0 l (omega arith), all_above s ls (λ i d lt. h (suc i) d (omega arith)))

rise_insert : (ls : List SlotLine) (k : ℕ) (n : SlotLine) → Rise ls → IsGap n.slot ls k → Rise (insert ls k n)
unfolding IsStrictlySortedBy
rise_insert [] zero n up gap = (tt, tt)
rise_insert [] (suc k) n up gap = (let inside : suc k ≤ 0 = gap.inside in absurd (omega arith))
rise_insert (l ∷ ls) zero n up gap = (all_above n.slot (l ∷ ls) (λ i d lt. gap.above i d (omega arith) lt), up)
rise_insert (l ∷ ls) (suc k) n up gap =
    let inside : suc k ≤ suc (length ls) = gap.inside in (
      below_insert (λ x. slot_cmp l.slot x ≡ Less) ls k n up.0 (gap.below 0 l (omega arith)),
      rise_insert ls k n up.1 (record {
        inside = omega arith;
        below = λ i d lt. gap.below (suc i) d (omega arith);
        above = λ i d low lt. gap.above (suc i) d (omega arith) (omega arith);
      }),
    )

all_insert : (P : SlotLine → Type 0) (ls : List SlotLine) (k : ℕ) (n : SlotLine) → All P ls → P n → All P (insert ls k n)
all_insert P [] zero n all here zero d lt = here
all_insert P [] zero n all here (suc i) d lt = (let lt' : suc i < 1 = lt in absurd (omega arith))
all_insert P [] (suc k) n all here zero d lt = here
all_insert P [] (suc k) n all here (suc i) d lt = (let lt' : suc i < 1 = lt in absurd (omega arith))
all_insert P (l ∷ ls) zero n all here zero d lt = here
all_insert P (l ∷ ls) zero n all here (suc i) d lt = all i d (omega arith)
all_insert P (l ∷ ls) (suc k) n all here zero d lt = all 0 d (omega arith)
all_insert P (l ∷ ls) (suc k) n all here (suc i) d lt = all_insert P ls k n (λ j e h. all (suc j) e (omega arith)) here i d (omega arith)

-- inserting the line of a slot that has none
pub lines-insert : (ls : List SlotLine) (k : ℕ) (n : SlotLine) → AreLines ls → IsGap n.slot ls k → n.line ≢ [] → IsLine n.line → AreLines (insert ls k n)
lines-insert ls k n h gap full line = record {
  rise = rise_insert ls k n h.rise gap;
  filled = all_insert (λ l. l.line ≢ []) ls k n h.filled full;
  tickets = all_insert (λ l. IsLine l.line) ls k n h.tickets line;
}

-- ---- a line changed

slots-set : (ls : List SlotLine) (k : ℕ) (l d : SlotLine) → k < length ls → l.slot ≡ (get_or ls k d).slot → slots (set ls k l) ≡ slots ls
slots-set [] k l d lt e = absurd (omega arith)
slots-set (x ∷ ls) zero l d lt e = ap (λ s. s ∷ slots ls) e
slots-set (x ∷ ls) (suc k) l d lt e = ap (λ ss. x.slot ∷ ss) (slots-set ls k l d (omega arith) e)

pub lines-set : (ls : List SlotLine) (k : ℕ) (l d : SlotLine) → AreLines ls → k < length ls → l.slot ≡ (get_or ls k d).slot → l.line ≢ [] → IsLine l.line → AreLines (set ls k l)
lines-set ls k l d h lt e full line = record {
  rise = subst (IsStrictlySortedBy slot_cmp) (sym (slots-set ls k l d lt e)) h.rise;
  filled = All-set (λ l. l.line ≢ []) ls k l full h.filled;
  tickets = All-set (λ l. IsLine l.line) ls k l line h.tickets;
}

differs : (l : SlotLine) (s x : Slot) → s ≡ l.slot → slot_eq l.slot x ≡ slot_eq s x
differs l s x e = ap (λ z. slot_eq z x) (sym e)

set_at : (ls : List SlotLine) (k : ℕ) (s x : Slot) (v : LineVersion) (l d : SlotLine) → Rise ls → k < length ls → (get_or ls k d).slot ≡ s → l.slot ≡ s → l.line ≡ (get_or ls k d).line ++ v ∷ []
    → line_at (set ls k l) x ≡ adds s v (line_at ls) x
set_at [] k s x v l d up lt at es ev = absurd (omega arith)
set_at (y ∷ ls) zero s x v l d up lt at es ev = rw (es, at) (elim (cases_Bool (slot_eq s x)) [ inl f ↦ rw f ev | inr f ↦ rw f refl ])
set_at (y ∷ ls) (suc k) s x v l d up lt at es ev =
    let ih : line_at (set ls k l) x ≡ adds s v (line_at ls) x = set_at ls k s x v l d (Rise-tail y ls up) (omega arith) at es ev in
    let less : slot_cmp y.slot (get_or ls k d).slot ≡ Less = less_at (y ∷ ls) 0 (suc k) d up (omega arith) lt in
    let differ : slot_eq y.slot s ≡ false = apart y.slot s (ap (slot_cmp y.slot) (sym at) ∙ less) in
    elim (cases_Bool (slot_eq y.slot x)) [
      | inl f ↦ (let n : slot_eq s x ≡ false = other_slot y.slot s differ x f in rw (f, n) refl)
      | inr f ↦ rw f ih
    ]

pub line_at-set : (ls : List SlotLine) (k : ℕ) (s : Slot) (v : LineVersion) (l d : SlotLine) → Rise ls → k < length ls → (get_or ls k d).slot ≡ s → l.slot ≡ s → l.line ≡ (get_or ls k d).line ++ v ∷ []
    → line_at (set ls k l) ≡ adds s v (line_at ls)
line_at-set ls k s v l d up lt at es ev = fun_ext (λ x. set_at ls k s x v l d up lt at es ev)

-- ---- the slots that have a version

is_nil-filled : (xs : List LineVersion) → xs ≢ [] → not (is_nil xs) ≡ true
is_nil-filled [] h = absurd (h refl)
is_nil-filled (x ∷ xs) h = refl

-- a slot is among those of the lines exactly if its line has a version
pub slots-exact : (ls : List SlotLine) (s : Slot) → All (λ l. l.line ≢ []) ls → list_any (λ x. slot_eq x s) (slots ls) ≡ not (is_nil (line_at ls s))
slots-exact [] s h = refl
slots-exact (l ∷ ls) s h = elim (cases_Bool (slot_eq l.slot s)) [
  | inl e ↦ rw e (sym (is_nil-filled l.line (h 0 l (omega arith))))
  | inr e ↦ rw e (slots-exact ls s (λ k d lt. h (suc k) d (omega arith)))
]

pub pushed_full : (xs : List LineVersion) (v : LineVersion) → xs ++ v ∷ [] ≢ []
pushed_full [] v e = cc e
pushed_full (x ∷ xs) v e = cc e

pub one_full : (v : LineVersion) → v ∷ [] ≢ []
one_full v e = cc e

pub one_line : (v : LineVersion) → IsLine (v ∷ [])
one_line v = λ k inside. (let few : k + 1 < 1 = inside in absurd (omega arith))

pub lines-none : AreLines []
unfolding IsStrictlySortedBy
lines-none = record { rise = tt; filled = λ k d lt. absurd (omega arith); tickets = λ k d lt. absurd (omega arith) }
