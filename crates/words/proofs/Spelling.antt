-- No two values have the same text.
use Rattle.std.proofs.Common.{◌≡◌, ◌≢◌, ℕ, Bool, true, false, List, ◌∷◌, ◌++◌, get_or, slice_index, refl, sym, ap, ◌∙◌, subst, arith}
use Rattle.std.proofs.lemmas.Fmt.{decimal_injective}
use Rattle.names.specs.declared.digest.Digest.{Digest}
use Rattle.names.specs.declared.folder.Mode.{Mode}
use Rattle.names.specs.declared.folder.Mode.TheVariants.{Shared, Private, Locked}
use Rattle.names.specs.declared.number.NodeId.{NodeId}
use Rattle.names.specs.declared.number.Ticket.{Ticket}
use Rattle.farm_base.specs.declared.want.Want.{Want}
use Rattle.names.specs.Decimals.{Lacks}
use Rattle.names.specs.Digests.{IsDigest}
use Rattle.names.specs.Names.{folder_text, mode_text, slot_text, IsSlot}
use Rattle.names.specs.Slots.{SlotParts}
use Rattle.names.proofs.NameLaws.{folder_text-injective, slot_text-injective}
use Rattle.names.proofs.TextLemmas.{Lacks-middle, encode-injective}
use Rattle.words.specs.Words.{node_text, ticket_text, digits_text, slot_with, access_text, want_text, IsNode, IsTicket, IsWant}
use Rattle.words.proofs.WordLemmas.{last_same}

-- ---- numbers and digests

pub node_same : (m n : NodeId) → IsNode m → IsNode n → node_text m ≡ node_text n → m ≡ n
node_same m n hm hn e =
    let same = decimal_injective m.0 n.0 (omega arith) (omega arith) e in
    λ i. record { 0 = same i }

pub ticket_same : (s t : Ticket) → IsTicket s → IsTicket t → ticket_text s ≡ ticket_text t → s ≡ t
ticket_same s t hs ht e =
    let same = decimal_injective s.0 t.0 hs ht e in
    λ i. record { 0 = same i }

pub digest_same : (a b : Digest) → IsDigest a → IsDigest b → digits_text a ≡ digits_text b → a ≡ b
digest_same a b ha hb e = let same = encode-injective a.0 b.0 ha.1 hb.1 e in λ i. record { 0 = same i }

-- ---- wants

pub access_same : (a b : Bool) (x y : List ℕ) → slice_index x 0 ≢ 114 → slice_index y 0 ≢ 114 → access_text a ++ x ≡ access_text b ++ y → (a ≡ b) × (x ≡ y)
access_same true true x y hx hy e = (refl, e)
access_same true false x y hx hy e = absurd (hx (ap (λ t. get_or t 0 0) e))
access_same false true x y hx hy e = absurd (hy (sym (ap (λ t. get_or t 0 0) e)))
access_same false false x y hx hy e = (refl, cc e)

first_of_folder : (m : Mode) (x : List ℕ) → slice_index (mode_text m ++ x) 0 ≢ 114
first_of_folder Shared x e = omega arith
first_of_folder Private x e = omega arith
first_of_folder Locked x e = omega arith

pub want_same : (a b : Want) → IsWant a → IsWant b → want_text a ≡ want_text b → a ≡ b
want_same a b ha hb e =
    let parts = access_same a.writable b.writable (folder_text a.folder) (folder_text b.folder)
    (first_of_folder a.folder.mode _) (first_of_folder b.folder.mode _) e in
    let folder = folder_text-injective a.folder b.folder ha hb parts.1 in
    λ i. record { folder = folder i; writable = parts.0 i }

-- ---- slots and what stands with them

pub slot_same : (s t : SlotParts) (x y : List ℕ) → IsSlot s → IsSlot t → Lacks 61 x → Lacks 61 y → slot_with s x ≡ slot_with t y → (s ≡ t) × (x ≡ y)
slot_same s t x y hs ht lx ly e =
    let parts = last_same 61 (slot_text s) (slot_text t) x y e lx ly in
    (slot_text-injective s t hs ht parts.0, parts.1)

-- a word without `=` has no slot
pub slot_without : (word : List ℕ) (s : SlotParts) (behind : List ℕ) → Lacks 61 word → word ≡ slot_with s behind → ⊥
slot_without word s behind l e = Lacks-middle 61 (slot_text s) behind (subst (Lacks 61) e l)

-- the parts of a word are determined
pub slot_parts : (word slot behind : List ℕ) (s : SlotParts) (b : List ℕ) → Lacks 61 b → word ≡ slot ++ 61 ∷ behind → Lacks 61 behind → word ≡ slot_with s b
    → (slot ≡ slot_text s) × (behind ≡ b)
slot_parts word slot behind s b lb e l is = last_same 61 slot (slot_text s) behind b (sym e ∙ is) l lb
