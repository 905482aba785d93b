-- The oldest lease that has the one slot of one of several folders.
use Rattle.std.proofs.Common.{◌≡◌, ℕ, ◌+◌, ◌<◌, ◌≤◌, List, [], ◌∷◌, Bool, true, false, ◌||◌, length, get_or, drop, drop_of_length-le, filter, Option, Some, None, refl, sym, ◌∙◌, ap, inl, inr, arith}
use Rattle.std.proofs.lemmas.Bool.{cases_Bool, ltb-false, le-ltb, lt-ltb, ltb-true}
use Rattle.std.specs.Prelude.{nat_lt, All, AllPairs}
use Rattle.std.specs.List.{find}
use Rattle.std.proofs.lemmas.List.Elements.{All-tail}
use Rattle.farm_base.specs.declared.lease.Lease.{Lease}
use Rattle.protocol.specs.Names.{Want, only_slot}
use Rattle.protocol.specs.Ledger.{has_slot}
use Rattle.holdings.specs.Leases.{IsBefore}
use Rattle.leaseindex.specs.Live.{older, holds_some}
use Rattle.holdings.specs.Leases.{takes}
use Rattle.holdings.proofs.PlaceLemmas.{drop-item}
use Rattle.holdings.proofs.LeaseLemmas.{AllPairs-head, AllPairs-tail}

-- ---- which of two is older

older_none : (o : Option Lease) → older o None ≡ o
older_none None = refl
older_none (Some g) = refl

older_lower : (g h : Lease) → g.ticket.0 ≤ h.ticket.0 → older (Some g) (Some h) ≡ Some g
older_lower g h le = rw (le-ltb h.ticket.0 g.ticket.0 le) refl

older_higher : (g h : Lease) → h.ticket.0 < g.ticket.0 → older (Some g) (Some h) ≡ Some h
older_higher g h lt = rw (lt-ltb h.ticket.0 g.ticket.0 lt) refl

older_assoc : (a b c : Option Lease) → older (older a b) c ≡ older a (older b c)
older_assoc None b c = refl
older_assoc (Some x) None c = refl
older_assoc (Some x) (Some y) None = older_none (older (Some x) (Some y))
older_assoc (Some x) (Some y) (Some z) =
    let lower = cases_Bool (nat_lt z.ticket.0 y.ticket.0) in
    elim (cases_Bool (nat_lt y.ticket.0 x.ticket.0)) [
      | inl yx ↦ (let below = ltb-true y.ticket.0 x.ticket.0 yx in elim lower [
        | inl zy ↦ (let next = ltb-true z.ticket.0 y.ticket.0 zy in rw (yx, zy) (sym (older_higher x z (omega arith))))
        | inr zy ↦ rw (yx, zy, yx) refl
      ])
      | inr yx ↦ (let above = ltb-false y.ticket.0 x.ticket.0 yx in elim lower [
        | inl zy ↦ rw (yx, zy) refl
        | inr zy ↦ (let next = ltb-false z.ticket.0 y.ticket.0 zy in rw (yx, zy) (older_lower x z (omega arith) ∙ sym (older_lower x y above)))
      ])
    ]

-- ---- among leases whose tickets rise

-- one that is older than all of these
older_than_found : (g : Lease) (test : Lease → Bool) (live : List Lease) → All (IsBefore g) live → older (Some g) (find test live) ≡ Some g
older_than_found g test [] above = refl
older_than_found g test (h ∷ live) above =
    let lower : g.ticket.0 < h.ticket.0 = above 0 h (omega arith) in
    elim (cases_Bool (test h)) [
      | inl e ↦ rw e (older_lower g h (omega arith))
      | inr e ↦ rw e (older_than_found g test live (All-tail (IsBefore g) h live above))
    ]

found_is_younger : (g : Lease) (test : Lease → Bool) (live : List Lease) → All (IsBefore g) live → older (find test live) (Some g) ≡ Some g
found_is_younger g test [] above = refl
found_is_younger g test (h ∷ live) above =
    let lower : g.ticket.0 < h.ticket.0 = above 0 h (omega arith) in
    elim (cases_Bool (test h)) [
      | inl e ↦ rw e (older_higher h g lower)
      | inr e ↦ rw e (found_is_younger g test live (All-tail (IsBefore g) h live above))
    ]

found_either : (p q r : Lease → Bool) (live : List Lease) → ((g : Lease) → r g ≡ (p g || q g)) → AllPairs IsBefore live → find r live ≡ older (find p live) (find q live)
found_either p q r [] either up = refl
found_either p q r (g ∷ live) either up =
    let above = AllPairs-head IsBefore g live up in
    elim (cases_Bool (p g)) [
      | inl a ↦ (let is : r g ≡ true = either g ∙ rw a refl in elim (cases_Bool (q g)) [
        | inl b ↦ rw (is, a, b) (sym (older_lower g g (omega arith)))
        | inr b ↦ rw (is, a, b) (sym (older_than_found g q live above))
      ])
      | inr a ↦ (let is : r g ≡ q g = either g ∙ rw a refl in elim (cases_Bool (q g)) [
        | inl b ↦ (let both : r g ≡ true = is ∙ b in rw (both, a, b) (sym (found_is_younger g p live above)))
        | inr b ↦ (let none : r g ≡ false = is ∙ b in rw (none, a, b) (found_either p q r live either (AllPairs-tail IsBefore g live up)))
      ])
    ]

-- ---- over the wants

abbrev pub oldest : Bool → List Want → List Lease → Option Lease
oldest tenure wants live = find (holds_some (filter (takes tenure) wants)) live

pub oldest_taking : (tenure : Bool) (w : Want) (wants : List Want) (live : List Lease) → AllPairs IsBefore live → takes tenure w ≡ true
    → oldest tenure (w ∷ wants) live ≡ older (find (λ g. has_slot g.slots (only_slot w.folder)) live) (oldest tenure wants live)
oldest_taking tenure w wants live up e =
    rw e (found_either (λ g. has_slot g.slots (only_slot w.folder)) (holds_some (filter (takes tenure) wants)) (holds_some (w ∷ filter (takes tenure) wants)) live (λ g. refl) up)

pub oldest_passing : (tenure : Bool) (w : Want) (wants : List Want) (live : List Lease) → takes tenure w ≡ false → oldest tenure (w ∷ wants) live ≡ oldest tenure wants live
oldest_passing tenure w wants live e = rw e refl

oldest_none : (tenure : Bool) (live : List Lease) → oldest tenure [] live ≡ None
oldest_none tenure [] = refl
oldest_none tenure (g ∷ live) = oldest_none tenure live

first_want : (wants : List Want) (k : ℕ) (w d : Want) → k < length wants → w ≡ get_or wants k d → drop k wants ≡ w ∷ drop (k + 1) wants
first_want wants k w d inside is = drop-item wants k d inside ∙ ap (λ (v : Want). v ∷ drop (k + 1) wants) (sym is)

-- after a want of which a slot is taken
pub oldest_next : (tenure : Bool) (wants : List Want) (k : ℕ) (w d : Want) (live : List Lease) (o r : Option Lease) → k < length wants → w ≡ get_or wants k d → AllPairs IsBefore live → takes tenure w ≡ true
    → older o (oldest tenure (drop k wants) live) ≡ r → older (older o (find (λ g. has_slot g.slots (only_slot w.folder)) live)) (oldest tenure (drop (k + 1) wants) live) ≡ r
oldest_next tenure wants k w d live o r inside is up e h =
    older_assoc o (find (λ g. has_slot g.slots (only_slot w.folder)) live) (oldest tenure (drop (k + 1) wants) live)
    ∙ ap (older o) (sym (ap (λ (ws : List Want). oldest tenure ws live) (first_want wants k w d inside is) ∙ oldest_taking tenure w (drop (k + 1) wants) live up e))
    ∙ h

-- after one of which none is
pub oldest_past : (tenure : Bool) (wants : List Want) (k : ℕ) (w d : Want) (live : List Lease) (o r : Option Lease) → k < length wants → w ≡ get_or wants k d → takes tenure w ≡ false
    → older o (oldest tenure (drop k wants) live) ≡ r → older o (oldest tenure (drop (k + 1) wants) live) ≡ r
oldest_past tenure wants k w d live o r inside is e h =
    ap (older o) (sym (ap (λ (ws : List Want). oldest tenure ws live) (first_want wants k w d inside is) ∙ oldest_passing tenure w (drop (k + 1) wants) live e)) ∙ h

-- after all of them
pub oldest_end : (tenure : Bool) (wants : List Want) (k : ℕ) (live : List Lease) (o r : Option Lease) → length wants ≤ k → older o (oldest tenure (drop k wants) live) ≡ r → o ≡ r
oldest_end tenure wants k live o r past h =
    sym (older_none o) ∙ ap (older o) (sym (ap (λ (ws : List Want). oldest tenure ws live) (drop_of_length-le wants past) ∙ oldest_none tenure live)) ∙ h
