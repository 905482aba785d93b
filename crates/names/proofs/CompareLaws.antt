-- The program's `==` and `cmp`: equal values are the same, and the orders are total.
use Rattle.std.proofs.Common.{◌≡◌, ℕ, true, eqb, eq-eqb, Ordering, refl, sym, ap, ◌∙◌}
use Rattle.std.specs.Ordering.{nat_cmp, is_eq, ordering_then}
use Rattle.std.specs.declared.cmp.Ordering.TheVariants.{Less, Equal, Greater}
use Rattle.std.specs.Cmp.{IsTotalOrder, IsEquivalence}
use Rattle.std.specs.Bool.{Decides}
use Rattle.std.proofs.lemmas.Bool.{and_parts, eqb-true}
use Rattle.std.proofs.lemmas.Cmp.{on_total, then_total, nat_cmp_total, on_equiv, and_equiv, nat_eq_equiv, nat_list_eq_equiv}
use Rattle.std.proofs.lemmas.Map.Lookups.{exact_unsigned}
use Rattle.std.proofs.lemmas.Slice.Eq.{bytes_eq-Decides}
use Rattle.names.specs.declared.digest.Digest.{Digest}
use Rattle.names.specs.declared.folder.FolderName.{FolderName}
use Rattle.names.specs.contracts.folder.FolderNameEq.TheImpl.Laws as folder_laws
use Rattle.names.specs.contracts.slot.SlotOrd.TheImpl.Laws as slot_laws
use Rattle.names.specs.contracts.slot.SlotPartialEq.TheImpl as slot_eq_impl
use Rattle.names.specs.contracts.slot.SlotOrd.TheImpl as slot_cmp_impl
use Rattle.names.specs.contracts.digest.DigestPartialEq.TheImpl as digest_eq_impl
use Rattle.names.specs.Digests.{digest_eq}
use Rattle.names.specs.Folders.{folder_cmp, folder_eq}
use Rattle.names.specs.Slots.{SlotParts, slot_eq, slot_cmp}
use Rattle.names.proofs.NameLaws.{folder_exact}
use Rattle.names.proofs.FolderLemmas.{eq-by_cmp}
pub use Rattle.names.proofs.FolderLemmas.{folder_total}

-- ---- the derived comparisons are those of the definitions

pub slot_eq-is : (a b : SlotParts) → slot_eq_impl.eq-value.it a b ≡ slot_eq a b
slot_eq-is a b = refl

pub slot_cmp-is : (a b : SlotParts) → slot_cmp_impl.cmp-value.it a b ≡ slot_cmp a b
slot_cmp-is a b = refl

pub digest_eq-is : (a b : Digest) → digest_eq_impl.eq-value.it a b ≡ digest_eq a b
digest_eq-is a b = refl

-- ---- equality

-- a name is equal to itself
pub folder_eq-itself : (f : FolderName) → folder_eq f f ≡ true
folder_eq-itself f = folder_laws.laws-law.refl f

-- equal digests are the same
pub digest_exact : (a b : Digest) → digest_eq a b ≡ true → a ≡ b
digest_exact a b h = let bytes = (bytes_eq-Decides a.0 b.0).0 h in λ j. record { 0 = bytes j }

-- a digest is equal to itself
pub digest_eq-itself : (a : Digest) → digest_eq a a ≡ true
digest_eq-itself a = (bytes_eq-Decides a.0 a.0).1 refl

-- equal slots are the same
pub slot_exact : (a b : SlotParts) → slot_eq a b ≡ true → a ≡ b
slot_exact a b h =
    let parts = and_parts (folder_eq a.folder b.folder) (eqb a.instance b.instance) h in
    let folder = folder_exact a.folder b.folder parts.0 in
    let instance = eqb-true a.instance b.instance parts.1 in
    λ j. record { folder = folder j; instance = instance j }

-- equal numbers
number_eq-itself : (n : ℕ) → eqb n n ≡ true
number_eq-itself n = eq-eqb n n refl

-- a slot is equal to itself
pub slot_eq-itself : (a : SlotParts) → slot_eq a a ≡ true
slot_eq-itself a = rw (folder_eq-itself a.folder, number_eq-itself a.instance) refl

-- ---- laws for tables and searches

-- `==` of names is an equivalence
pub folder_equivalence : IsEquivalence folder_eq
folder_equivalence = folder_laws.laws-law

-- `==` of slots is an equivalence
pub slot_equivalence : IsEquivalence slot_eq
slot_equivalence = and_equiv (on_equiv (λ (s : SlotParts). s.folder) folder_equivalence) (on_equiv (λ (s : SlotParts). s.instance) nat_eq_equiv)

-- `==` of digests is an equivalence
pub digest_equivalence : IsEquivalence digest_eq
digest_equivalence = on_equiv (λ (d : Digest). d.0) nat_list_eq_equiv

-- two names are the same or not
pub folder_decides : (f g : FolderName) → Decides (folder_eq f g) (f ≡ g)
folder_decides f g = (folder_exact f g, λ e. ap (λ h. folder_eq f h) (sym e) ∙ folder_eq-itself f)

-- two slots are the same or not
pub slot_decides : (a b : SlotParts) → Decides (slot_eq a b) (a ≡ b)
slot_decides a b = (slot_exact a b, λ e. ap (λ s. slot_eq a s) (sym e) ∙ slot_eq-itself a)

-- two digests are the same or not
pub digest_decides : (a b : Digest) → Decides (digest_eq a b) (a ≡ b)
digest_decides a b = (digest_exact a b, λ e. ap (λ d. digest_eq a d) (sym e) ∙ digest_eq-itself a)

-- ---- order

-- slots are equal exactly where they tie
pub slot_eq-by_cmp : (a b : SlotParts) → slot_eq a b ≡ is_eq (slot_cmp a b)
slot_eq-by_cmp a b = slot_laws.matches_eq-law a b

-- names that tie are the same
pub folder_cmp-tie : (f g : FolderName) → folder_cmp f g ≡ Equal → f ≡ g
folder_cmp-tie f g h = folder_exact f g (eq-by_cmp f g ∙ ap is_eq h)

-- the slots' order is total
pub slot_total : IsTotalOrder slot_cmp
slot_total = then_total (on_total (λ (s : SlotParts). s.folder) folder_total) (on_total (λ (s : SlotParts). s.instance) nat_cmp_total)

-- slots that tie are the same
pub slot_cmp-tie : (a b : SlotParts) → slot_cmp a b ≡ Equal → a ≡ b
slot_cmp-tie a b h =
    let parts = both_tie (folder_cmp a.folder b.folder) (nat_cmp a.instance b.instance) h in
    let folder = folder_cmp-tie a.folder b.folder parts.0 in
    let instance = exact_unsigned a.instance b.instance parts.1 in
    λ j. record { folder = folder j; instance = instance j }
  where
    both_tie : (p q : Ordering) → ordering_then p q ≡ Equal → (p ≡ Equal) × (q ≡ Equal)
    both_tie Less q e = absurd (cc e)
    both_tie Equal q e = (refl, e)
    both_tie Greater q e = absurd (cc e)
