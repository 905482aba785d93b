-- PRIVATE folders of which no instance is free, once an ask was tried.
use Rattle.std.proofs.Common.{◌≡◌, List, [], ◌∷◌, ◌++◌, Bool, true, false, not, cond, refl, sym, ◌∙◌, ap, subst, inl, inr}
use Rattle.std.proofs.lemmas.Bool.{cases_Bool, and_parts, not-true}
use Rattle.std.specs.List.{list_any}
use Rattle.names.specs.Folders.{folder_eq}
use Rattle.names.proofs.NameLaws.{folder_exact}
use Rattle.names.proofs.CompareLaws.{folder_eq-itself}
use Rattle.protocol.specs.Lists.{In}
use Rattle.protocol.specs.Names.{FolderName, Slot, Want, slot_eq, is_private, leased_wants}
use Rattle.protocol.specs.Machine.{Parked}
use Rattle.protocol.specs.Ledger.{Limits, Work, Lease, has_slot, some_lease, slot_for, decision, lease_for, gives, carried_out, tried}
use Rattle.protocol.specs.Ledger.{is_free as is_free_in}
use Rattle.events.specs.declared.answer.Decision.{Decision}
use Rattle.events.specs.declared.answer.Decision.TheVariants.{Give, Deny, Wait}
use Rattle.protocol.proofs.Base.{true_false, slot_eq_is, any_in, from_any, from_map, in_append, in_one}
use Rattle.leases.specs.Table.{is_spent}
use Rattle.parked.specs.Noted.{is_noted}
use Rattle.effects.specs.Spent.{is_private_spent, IsNoted}
use Rattle.effects.proofs.SpentWords.{spent_before}
use Rattle.drafts.proofs.IdleWords.{leased-among}
use Rattle.drafts.proofs.Trying.{tried-is}

-- a slot of a folder that the ask doesn't want is free still
free_carried : (d : Decision) (k : Limits) (p : Parked) (w : Work) (f : FolderName) → list_any (λ v. folder_eq v.folder f) p.wants ≡ false
    → (s : Slot) → s.folder ≡ f → is_free_in w.ledger s ≡ true → is_free_in (carried_out k d p w).ledger s ≡ true
unfolding gives
free_carried Give k p w f none s is e =
    let b = and_parts (not (some_lease w.ledger.live s)) (not (w.ledger.retired s)) e in
    let g : Lease = lease_for k w.ledger p in
    let leased : some_lease (w.ledger.live ++ g ∷ []) s ≡ false = elim (cases_Bool (some_lease (w.ledger.live ++ g ∷ []) s)) [
      | inl on ↦ (
          let r = from_any (λ (h : Lease). has_slot h.slots s) (w.ledger.live ++ g ∷ []) on in
          elim (in_append r.0 w.ledger.live (g ∷ []) r.1) [
            | inl i ↦ true_false (some_lease w.ledger.live s) (any_in (λ (h : Lease). has_slot h.slots s) r.0 w.ledger.live i r.2) (not-true (some_lease w.ledger.live s) b.0)
            | inr i ↦ (
                let has : has_slot g.slots s ≡ true = subst (λ (h : Lease). has_slot h.slots s ≡ true) (in_one r.0 g i) r.2 in
                let q = from_any (λ (x : Slot × Bool). slot_eq x.0 s) g.slots has in
                let o = from_map (λ (v : Want). (slot_for k.instances (is_free_in w.ledger) v, v.writable)) q.0 (leased_wants p.tenure p.wants) q.1 in
                let same : o.0.folder ≡ f = ap (λ (z : Slot × Bool). z.0.folder) (sym o.2) ∙ ap (λ (z : Slot). z.folder) (slot_eq_is q.0.0 s q.2) ∙ is in
                let wanted = any_in (λ (v : Want). folder_eq v.folder f) o.0 p.wants (leased-among p.tenure o.0 p.wants o.1) (ap (λ (h : FolderName). folder_eq h f) same ∙ folder_eq-itself f) in
                true_false (list_any (λ (v : Want). folder_eq v.folder f) p.wants) wanted none)
          ])
      | inr off ↦ off
    ] in
    rw leased b.1
free_carried (Deny why) k p w f none s is e = e
free_carried Wait k p w f none s is e = e

-- the same, unless it was over
free_unless : (k : Limits) (p : Parked) (b : Bool) (w w' : Work) (f : FolderName) → w' ≡ cond b w (tried k p w) → list_any (λ v. folder_eq v.folder f) p.wants ≡ false
    → (s : Slot) → s.folder ≡ f → is_free_in w.ledger s ≡ true → is_free_in w'.ledger s ≡ true
free_unless k p true w w' f e none s is free = subst (λ (x : Work). is_free_in x.ledger s ≡ true) (sym e) free
free_unless k p false w w' f e none s is free =
    subst (λ (x : Work). is_free_in x.ledger s ≡ true) (sym (e ∙ tried-is k p w (decision k w.ledger p) refl)) (free_carried (decision k w.ledger p) k p w f none s is free)

-- an ask's folders are noted still if those are that the tried ask wants
pub noted-tried : (noted noted' : List FolderName) (k : Limits) (p : Parked) (b : Bool) (w w' : Work) (q : Parked) → w' ≡ cond b w (tried k p w)
    → ((f : FolderName) → is_noted noted f ≡ true → is_noted noted' f ≡ true)
    → ((v : Want) → In v p.wants → is_private_spent (is_free_in w'.ledger) v.folder ≡ true → is_noted noted' v.folder ≡ true)
    → IsNoted noted (is_free_in w.ledger) q → IsNoted noted' (is_free_in w'.ledger) q
noted-tried noted noted' k p b w w' q e kept fresh known v i spent =
    let f : FolderName = v.folder in
    elim (cases_Bool (list_any (λ (x : Want). folder_eq x.folder f) p.wants)) [
      | inl some ↦ (
          let r = from_any (λ (x : Want). folder_eq x.folder f) p.wants some in
          let same : r.0.folder ≡ f = folder_exact r.0.folder f r.2 in
          subst (λ (g : FolderName). is_noted noted' g ≡ true) same (fresh r.0 r.1 (subst (λ (g : FolderName). is_private_spent (is_free_in w'.ledger) g ≡ true) (sym same) spent)))
      | inr none ↦ (
          let parts = and_parts (is_private f.mode) (is_spent (is_free_in w'.ledger) f) spent in
          let private = parts.0 in
          let before : is_spent (is_free_in w.ledger) f ≡ true = spent_before (is_free_in w.ledger) (is_free_in w'.ledger) f (free_unless k p b w w' f e none) parts.1 in
          kept f (known v i (rw (private, before) refl)))
    ]
