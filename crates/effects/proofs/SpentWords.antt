-- PRIVATE folders of which no instance is free.
use Rattle.std.proofs.Common.{◌≡◌, ℕ, List, ◌++◌, Bool, true, false, not, eqb, filter, refl, sym, ◌∙◌, ap, subst, inl, inr}
use Rattle.std.proofs.lemmas.Bool.{cases_Bool, and_parts, not-true, eqb-true}
use Rattle.std.specs.List.{list_any}
use Rattle.names.specs.declared.limits.TheConstants.{INSTANCES}
use Rattle.names.specs.Folders.{folder_eq}
use Rattle.names.proofs.NameLaws.{folder_exact}
use Rattle.names.proofs.CompareLaws.{folder_eq-itself}
use Rattle.protocol.specs.Lists.{In}
use Rattle.protocol.specs.Names.{FolderName, Slot, slot_eq, is_private}
use Rattle.protocol.specs.Machine.{Parked}
use Rattle.protocol.specs.Ledger.{Lease, has_slot, some_lease, lowest}
use Rattle.protocol.proofs.Base.{true_false, slot_eq_same, slot_eq_is, any_in, from_any, in_append, from_filter}
use Rattle.leases.specs.Changes.{Change, changed}
use Rattle.holdings.specs.Endings.{has_ended}
use Rattle.leases.specs.Leases.{Table}
use Rattle.holdings.specs.Leases.{among}
use Rattle.leases.specs.Table.{is_free, is_spent}
use Rattle.leases.proofs.LowestLaw.{lowest_is_lowest}
use Rattle.parked.specs.Noted.{is_noted}
use Rattle.effects.specs.Spent.{is_private_spent, IsNoted}

-- no instance of a folder was free if none is, where each that was free still is
pub spent_before : (free free' : Slot → Bool) (f : FolderName) → ((s : Slot) → s.folder ≡ f → free s ≡ true → free' s ≡ true) → is_spent free' f ≡ true → is_spent free f ≡ true
spent_before free free' f still e = elim (cases_Bool (is_spent free f)) [
  | inl t ↦ t
  | inr n ↦ (
      let i : ℕ = lowest free f 1 INSTANCES in
      let none = (lowest_is_lowest free' f).none (eqb-true (lowest free' f 1 INSTANCES) 0 e) in
      let r = (lowest_is_lowest free f).found (λ z. true_false (eqb i 0) (ap (λ (k : ℕ). eqb k 0) z) n) in
      true_false (free' (record { folder = f; instance = i })) (still (record { folder = f; instance = i }) refl r.is_free) (none i r.range.0 r.range.1))
]

-- one of these leases has a slot of the folder
abbrev some_slot_of : List Lease → FolderName → Bool
some_slot_of leases f = list_any (λ g. list_any (λ x. folder_eq x.0.folder f) g.slots) leases

of_folder : (s : Slot) (f : FolderName) (t : Slot) → slot_eq t s ≡ true → s.folder ≡ f → folder_eq t.folder f ≡ true
of_folder s f t same is = ap (λ (h : FolderName). folder_eq h f) (ap (λ (z : Slot). z.folder) (slot_eq_is t s same) ∙ is) ∙ folder_eq-itself f

-- a slot is free still if none of its folder was granted or retired
free_still : (t : Table) (c : Change) (f : FolderName) → some_slot_of c.granted f ≡ false → list_any (λ s. folder_eq s.folder f) c.retired ≡ false
    → (s : Slot) → s.folder ≡ f → is_free t s ≡ true → is_free (changed t c) s ≡ true
free_still t c f granted retired s is e =
    let b = and_parts (not (some_lease t.live s)) (not (among t.retired s)) e in
    let live : List Lease = filter (λ g. not (has_ended c.ended g)) t.live in
    let leased : some_lease (live ++ c.granted) s ≡ false = elim (cases_Bool (some_lease (live ++ c.granted) s)) [
      | inl on ↦ (
          let r = from_any (λ (g : Lease). has_slot g.slots s) (live ++ c.granted) on in
          elim (in_append r.0 live c.granted r.1) [
            | inl i ↦ true_false (some_lease t.live s) (any_in (λ (g : Lease). has_slot g.slots s) r.0 t.live (from_filter (λ g. not (has_ended c.ended g)) r.0 t.live i).0 r.2) (not-true (some_lease t.live s) b.0)
            | inr i ↦ (
                let q = from_any (λ (x : Slot × Bool). slot_eq x.0 s) r.0.slots r.2 in
                let here : list_any (λ (x : Slot × Bool). folder_eq x.0.folder f) r.0.slots ≡ true = any_in (λ (x : Slot × Bool). folder_eq x.0.folder f) q.0 r.0.slots q.1 (of_folder s f q.0.0 q.2 is) in
                true_false (some_slot_of c.granted f) (any_in (λ (g : Lease). list_any (λ x. folder_eq x.0.folder f) g.slots) r.0 c.granted i here) granted)
          ])
      | inr off ↦ off
    ] in
    let gone : among (t.retired ++ c.retired) s ≡ false = elim (cases_Bool (among (t.retired ++ c.retired) s)) [
      | inl on ↦ (
          let r = from_any (λ (x : Slot). slot_eq x s) (t.retired ++ c.retired) on in
          elim (in_append r.0 t.retired c.retired r.1) [
            | inl i ↦ true_false (among t.retired s) (any_in (λ (x : Slot). slot_eq x s) r.0 t.retired i r.2) (not-true (among t.retired s) b.1)
            | inr i ↦ true_false (list_any (λ (x : Slot). folder_eq x.folder f) c.retired) (any_in (λ (x : Slot). folder_eq x.folder f) r.0 c.retired i (of_folder s f r.0 r.2 is)) retired
          ])
      | inr off ↦ off
    ] in
    rw (leased, gone) refl

-- an ask's folders are noted if those are noted still that were, and those of the slots that were granted or retired
pub noted-changed : (noted noted' : List FolderName) (t : Table) (c : Change) (p : Parked)
    → ((f : FolderName) → In f noted → is_private_spent (is_free (changed t c)) f ≡ true → is_noted noted' f ≡ true)
    → ((g : Lease) → In g c.granted → (x : Slot × Bool) → In x g.slots → is_private_spent (is_free (changed t c)) x.0.folder ≡ true → is_noted noted' x.0.folder ≡ true)
    → ((s : Slot) → In s c.retired → is_private_spent (is_free (changed t c)) s.folder ≡ true → is_noted noted' s.folder ≡ true)
    → IsNoted noted (is_free t) p → IsNoted noted' (is_free (changed t c)) p
noted-changed noted noted' t c p old granted retired known w i spent =
    let f : FolderName = w.folder in
    let Spent : FolderName → Type 0 = λ g. is_private_spent (is_free (changed t c)) g ≡ true in
    let Noted : FolderName → Type 0 = λ g. is_noted noted' g ≡ true in
    elim (cases_Bool (some_slot_of c.granted f)) [
      | inl some ↦ (
          let r = from_any (λ (g : Lease). list_any (λ x. folder_eq x.0.folder f) g.slots) c.granted some in
          let q = from_any (λ (x : Slot × Bool). folder_eq x.0.folder f) r.0.slots r.2 in
          let same : q.0.0.folder ≡ f = folder_exact q.0.0.folder f q.2 in
          subst Noted same (granted r.0 r.1 q.0 q.1 (subst Spent (sym same) spent)))
      | inr none_granted ↦ elim (cases_Bool (list_any (λ (s : Slot). folder_eq s.folder f) c.retired)) [
        | inl some ↦ (
            let r = from_any (λ (s : Slot). folder_eq s.folder f) c.retired some in
            let same : r.0.folder ≡ f = folder_exact r.0.folder f r.2 in
            subst Noted same (retired r.0 r.1 (subst Spent (sym same) spent)))
        | inr none_retired ↦ (
            let b = and_parts (is_private f.mode) (is_spent (is_free (changed t c)) f) spent in
            let private = b.0 in
            let before : is_spent (is_free t) f ≡ true = spent_before (is_free t) (is_free (changed t c)) f (free_still t c f none_granted none_retired) b.1 in
            let r = from_any (λ (g : FolderName). folder_eq g f) noted (known w i (rw (private, before) refl)) in
            let same : r.0 ≡ f = folder_exact r.0 f r.2 in
            subst Noted same (old r.0 r.1 (subst Spent (sym same) spent)))
      ]
    ]

-- a slot of a list is among its slots
pub among-itself : (s : Slot) (slots : List Slot) → In s slots → among slots s ≡ true
among-itself s slots i = any_in (λ (x : Slot). slot_eq x s) s slots i (slot_eq_same s)
