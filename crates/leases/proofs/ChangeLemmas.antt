-- A table with changes over it.
use Rattle.std.proofs.Common.{◌≡◌, ◌+◌, ◌≤◌, List, [], ◌∷◌, ◌++◌, Bool, not, ◌&&◌, ◌||◌, filter, length, refl, sym, ◌∙◌, ap, subst, append_assoc, inl, inr, arith}
use Rattle.std.proofs.Math.Bool.{or-false}
use Rattle.std.proofs.lemmas.Bool.{cases_Bool}
use Rattle.std.specs.List.{flat_map}
use Rattle.std.proofs.lemmas.Grind.{flat_map-append}
use Rattle.std.proofs.lemmas.List.{append-nil}
use Rattle.std.proofs.lemmas.List.Elements.{filter-append}
use Rattle.std.proofs.lemmas.List.Folds.{list_any-append}
use Rattle.std.proofs.lemmas.List.Filters.{length-filter_both}
use Rattle.farm_base.specs.declared.lease.Lease.{Lease}
use Rattle.protocol.specs.Names.{Slot, NodeId}
use Rattle.protocol.specs.Ledger.{is_at}
use Rattle.holdings.specs.declared.ending.Ending.{Ending}
use Rattle.leases.specs.Leases.{Table}
use Rattle.holdings.specs.Leases.{AreLeases}
use Rattle.leases.specs.Changes.{Change, changed, slots_ended}
use Rattle.holdings.specs.Endings.{ends_lease, has_ended}
use Rattle.leases.specs.Table.{all_private, private_slots}
use Rattle.leaseindex.proofs.EndedLemmas.{filter_twice, none_ended, leases-filter}

-- ---- filters

-- what passes both of two tests
pub filter_both : {A : Type 0} (p q : A → Bool) (xs : List A) → filter (λ x. p x && q x) xs ≡ filter p (filter q xs)
filter_both p q [] = refl
filter_both p q (x ∷ xs) = elim (cases_Bool (p x)) [
  | inl e ↦ elim (cases_Bool (q x)) [
    | inl f ↦ rw (e, f, e) (ap (λ ys. x ∷ ys) (filter_both p q xs))
    | inr f ↦ rw (e, f) (filter_both p q xs)
  ]
  | inr e ↦ elim (cases_Bool (q x)) [
    | inl f ↦ rw (e, f, e) (filter_both p q xs)
    | inr f ↦ rw (e, f) (filter_both p q xs)
  ]
]

-- ---- no changes

-- a table with no changes is the table
pub changed-none : (t : Table) → changed t (record { ended = []; granted = []; retired = [] }) ≡ t
changed-none t =
    let with_live : List Lease → Table = λ live. record { live = live; retired = t.retired ++ [] } in
    let with_retired : List Slot → Table = λ retired. record { live = t.live; retired = retired } in
    ap with_live (append-nil (filter (λ g. not (has_ended [] g)) t.live) ∙ none_ended t.live) ∙ ap with_retired (append-nil t.retired)

-- ---- one more change

-- one more ending
ended_more : (es : List Ending) (e : Ending) (live : List Lease) → filter (λ g. not (has_ended (es ++ e ∷ []) g)) live ≡ filter (λ g. not (ends_lease e g)) (filter (λ g. not (has_ended es g)) live)
ended_more es e live =
    filter_twice (has_ended es) (ends_lease e) (has_ended (es ++ e ∷ []))
    (λ g. list_any-append (λ (f : Ending). ends_lease f g) es (e ∷ []) ∙ ap (λ (b : Bool). has_ended es g || b) (or-false (ends_lease e g))) live

-- the leases of the table after one more ending
pub live-ended : (t : Table) (old new : Change) (e : Ending) → new.ended ≡ old.ended ++ e ∷ [] → new.granted ≡ filter (λ g. not (ends_lease e g)) old.granted
    → (changed t new).live ≡ filter (λ g. not (ends_lease e g)) (changed t old).live
live-ended t old new e ended granted =
    ap (λ (es : List Ending). filter (λ g. not (has_ended es g)) t.live ++ new.granted) ended
    ∙ ap (λ (gs : List Lease). filter (λ g. not (has_ended (old.ended ++ e ∷ []) g)) t.live ++ gs) granted
    ∙ ap (λ (gs : List Lease). gs ++ filter (λ g. not (ends_lease e g)) old.granted) (ended_more old.ended e t.live)
    ∙ sym (filter-append (λ g. not (ends_lease e g)) (filter (λ g. not (has_ended old.ended g)) t.live) old.granted)

-- they may be live together
pub sound-ended : (t : Table) (old new : Change) (e : Ending) → new.ended ≡ old.ended ++ e ∷ [] → new.granted ≡ filter (λ g. not (ends_lease e g)) old.granted
    → AreLeases (changed t old).live → AreLeases (changed t new).live
sound-ended t old new e ended granted sound = subst AreLeases (sym (live-ended t old new e ended granted)) (leases-filter (λ g. not (ends_lease e g)) (changed t old).live sound)

-- the leases of the table after one more is granted
pub live-granted : (t : Table) (old new : Change) (g : Lease) → new.ended ≡ old.ended → new.granted ≡ old.granted ++ g ∷ [] → (changed t new).live ≡ (changed t old).live ++ g ∷ []
live-granted t old new g ended granted =
    ap (λ (es : List Ending). filter (λ h. not (has_ended es h)) t.live ++ new.granted) ended
    ∙ ap (λ (gs : List Lease). filter (λ h. not (has_ended old.ended h)) t.live ++ gs) granted
    ∙ sym (append_assoc (filter (λ h. not (has_ended old.ended h)) t.live) old.granted (g ∷ []))

-- ---- slots

-- the PRIVATE slots of a node's leases, of those that the table has and of those that were granted since
pub private_at-both : (n : NodeId) (live granted : List Lease)
    → all_private (filter (is_at n) live) ++ all_private (filter (is_at n) (filter (λ g. not (has_ended [] g)) granted)) ≡ all_private (filter (is_at n) (live ++ granted))
private_at-both n live granted =
    ap (λ (gs : List Lease). all_private (filter (is_at n) live) ++ all_private (filter (is_at n) gs)) (none_ended granted)
    ∙ sym (flat_map-append (λ (g : Lease). private_slots g.slots) (filter (is_at n) live) (filter (is_at n) granted))
    ∙ ap all_private (sym (filter-append (is_at n) live granted))

-- the slots of the leases that this ends, likewise
pub slots_ended-both : (e : Ending) (live granted : List Lease)
    → slots_ended e live ++ slots_ended e (filter (λ g. not (has_ended [] g)) granted) ≡ slots_ended e (live ++ granted)
slots_ended-both e live granted =
    ap (λ (gs : List Lease). slots_ended e live ++ slots_ended e gs) (none_ended granted)
    ∙ sym (flat_map-append (λ (g : Lease). g.slots) (filter (ends_lease e) live) (filter (ends_lease e) granted))
    ∙ ap (flat_map (λ (g : Lease). g.slots)) (sym (filter-append (ends_lease e) live granted))

-- ---- room

pub length-kept : (p : Lease → Bool) (live : List Lease) → length (filter p live) ≤ length live
length-kept p live = omega (arith, length-filter_both p (λ g. not (p g)) (λ g. refl) live)
