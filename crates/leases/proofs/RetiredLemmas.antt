-- The PRIVATE slots that are never granted again.
use mathlib.Core.Path.{fun_ext}
use Rattle.std.proofs.Common.{◌≡◌, List, [], ◌∷◌, ◌++◌, Bool, true, false, ◌&&◌, ◌||◌, cond, map, filter, Option, Some, None, refl, sym, ◌∙◌, ap}
use Rattle.std.proofs.Math.Bool.{or_comm, or-false, and-false, and-or_distrib_left}
use Rattle.std.proofs.lemmas.List.Folds.{list_any-append}
use Rattle.names.proofs.CompareLaws as laws
use Rattle.farm_base.specs.declared.lease.Lease.{Lease}
use Rattle.protocol.specs.Names.{Slot, slot_eq, is_private}
use Rattle.protocol.specs.Ledger.{has_slot, some_lease, retire_all}
use Rattle.holdings.specs.Leases.{among}
use Rattle.leases.specs.Table.{private_slots, private_of, all_private, retires_some}

-- one more PRIVATE slot
among_step : (p q r s t : Bool) → (q ≡ true → p ≡ s) → t ≡ (s && r) → (cond p (q || t) t) ≡ (s && (q || r))
among_step true true r true t e h = refl
among_step true true r false t e h = (let bad : true ≡ false = e refl in absurd (cc))
among_step true false r s t e h = h
among_step false true r true t e h = (let bad : false ≡ true = e refl in absurd (cc))
among_step false true r false t e h = h
among_step false false r s t e h = h

picks : (b : Bool) (x : Slot) (xs : List Slot) (s : Slot) → among (cond b (x ∷ xs) xs) s ≡ cond b (slot_eq x s || among xs s) (among xs s)
picks true x xs s = refl
picks false x xs s = refl

mapped : (b : Bool) (x : Slot × Bool) (xs : List (Slot × Bool)) → map (λ (y : Slot × Bool). y.0) (cond b (x ∷ xs) xs) ≡ cond b (x.0 ∷ map (λ (y : Slot × Bool). y.0) xs) (map (λ (y : Slot × Bool). y.0) xs)
mapped true x xs = refl
mapped false x xs = refl

-- the PRIVATE slots of a lease are its slots that are PRIVATE
among_private : (slots : List (Slot × Bool)) (s : Slot) → among (private_slots slots) s ≡ (is_private s.folder.mode && has_slot slots s)
among_private [] s = sym (and-false (is_private s.folder.mode))
among_private (x ∷ xs) s =
    ap (λ (ys : List Slot). among ys s) (mapped (is_private x.0.folder.mode) x (filter (λ (y : Slot × Bool). is_private y.0.folder.mode) xs))
    ∙ picks (is_private x.0.folder.mode) x.0 (private_slots xs) s
    ∙ among_step (is_private x.0.folder.mode) (slot_eq x.0 s) (has_slot xs s) (is_private s.folder.mode) (among (private_slots xs) s)
    (λ e. ap (λ (z : Slot). is_private z.folder.mode) (laws.slot_exact x.0 s e)) (among_private xs s)

-- the same for a list of leases
among_all : (leases : List Lease) (s : Slot) → among (all_private leases) s ≡ (is_private s.folder.mode && some_lease leases s)
among_all [] s = sym (and-false (is_private s.folder.mode))
among_all (g ∷ leases) s =
    list_any-append (λ x. slot_eq x s) (private_slots g.slots) (all_private leases)
    ∙ (λ j. among_private g.slots s j || among_all leases s j)
    ∙ sym (and-or_distrib_left (is_private s.folder.mode) (has_slot g.slots s) (some_lease leases s))

-- a withdrawn lease retires them
retired_at : (o : Option Lease) (retired : List Slot) (s : Slot) → among (retired ++ private_of o) s ≡ retires_some o (among retired) s
retired_at None retired s = list_any-append (λ x. slot_eq x s) retired [] ∙ or-false (among retired s)
retired_at (Some g) retired s =
    list_any-append (λ x. slot_eq x s) retired (private_slots g.slots)
    ∙ ap (λ (b : Bool). among retired s || b) (among_private g.slots s)
    ∙ or_comm (among retired s) (is_private s.folder.mode && has_slot g.slots s)

pub retired-one : (o : Option Lease) (retired : List Slot) → among (retired ++ private_of o) ≡ retires_some o (among retired)
retired-one o retired = fun_ext (retired_at o retired)

retired_all_at : (leases : List Lease) (retired : List Slot) (s : Slot) → among (retired ++ all_private leases) s ≡ retire_all leases (among retired) s
retired_all_at leases retired s =
    list_any-append (λ x. slot_eq x s) retired (all_private leases)
    ∙ ap (λ (b : Bool). among retired s || b) (among_all leases s)
    ∙ or_comm (among retired s) (is_private s.folder.mode && some_lease leases s)

pub retired-all : (leases : List Lease) (retired : List Slot) → among (retired ++ all_private leases) ≡ retire_all leases (among retired)
retired-all leases retired = fun_ext (retired_all_at leases retired)
