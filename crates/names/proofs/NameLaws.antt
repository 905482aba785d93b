-- At most one name has a given text, and equality as the program tests it.
use Rattle.std.proofs.Common.{◌≡◌, ℕ, true, ◌&&◌, eqb, List, [], ◌∷◌, ◌++◌, Option, Some, None, refl, sym, ap, ◌∙◌, arith}
use Rattle.std.proofs.lemmas.Bool.{and_parts, eqb-true}
use Rattle.std.proofs.lemmas.Fmt.{decimal_injective}
use Rattle.std.proofs.lemmas.List.{append-nil}
use Rattle.std.proofs.lemmas.Slice.Eq.{bytes_eq-Decides}
use Rattle.std.specs.Prelude.{decimal}
use Rattle.std.specs.Option.{option_eq}
use Rattle.std.specs.Cmp.Lexicographic.{pointwise}
use Rattle.names.specs.declared.folder.Mode.{Mode}
use Rattle.names.specs.declared.folder.Mode.TheVariants.{Shared, Private, Locked}
use Rattle.names.specs.declared.folder.Base.{Base}
use Rattle.names.specs.declared.folder.FolderName.{FolderName}
use Rattle.names.specs.declared.digest.Digest.{Digest}
use Rattle.names.specs.declared.digest.Key.{Key}
use Rattle.names.specs.Decimals.{Lacks}
use Rattle.names.specs.Digests.{IsDigest, digest_text, key_text}
use Rattle.names.specs.Slots.{SlotParts, IsInstance}
use Rattle.names.specs.Modes.{mode_index}
use Rattle.names.specs.Folders.{base_eq, folder_eq}
use Rattle.names.specs.Escapes.{id_text}
use Rattle.names.specs.Names.{output_text, base_text, folder_text, instance_text, slot_text, IsOutput, IsBase, IsName, IsSlot}
use Rattle.names.proofs.TextLemmas.{encode-injective}
use Rattle.names.proofs.NameLemmas.{split_same, key-lacks, id-lacks, at_mark, mode_same, ids_same, id_text-injective}
use Rattle.names.proofs.SlotLemmas.{folder-lacks_hash, plain_parts, marked_parts}

-- a text is that of at most one digest
pub digest_text-injective : (a b : Digest) → IsDigest a → IsDigest b → digest_text a ≡ digest_text b → a ≡ b
digest_text-injective a b ha hb e =
    let bytes = encode-injective a.0 b.0 ha.1 hb.1 (cc e) in
    λ j. record { 0 = bytes j }

-- a text is that of at most one key
pub key_text-injective : (a b : Key) → IsDigest a.0 → IsDigest b.0 → key_text a ≡ key_text b → a ≡ b
key_text-injective a b ha hb e =
    let bytes = encode-injective a.0.0 b.0.0 ha.1 hb.1 e in
    λ j. record { 0 = record { 0 = bytes j } }

base_is : (a b : Base) → a.key.0.0 ≡ b.key.0.0 → a.index ≡ b.index → a ≡ b
base_is a b k i = λ j. record { key = record { 0 = record { 0 = k j } }; index = i j }

output_same : (a b : Base) → IsOutput a → IsOutput b → output_text a ≡ output_text b → a ≡ b
output_same a b ha hb e =
    let p = split_same 46 (key_text a.key) (key_text b.key) (decimal a.index) (decimal b.index) e (key-lacks 46 refl a ha) (key-lacks 46 refl b hb) in
    let la = ha.index in
    let lb = hb.index in
    base_is a b (encode-injective a.key.0.0 b.key.0.0 ha.key.1 hb.key.1 p.0) (decimal_injective a.index b.index (omega arith) (omega arith) p.1)

bases_same : (t : List ℕ) (o p : Option Base) → IsBase o → IsBase p → t ++ base_text o ≡ t ++ base_text p → o ≡ p
bases_same [] None None ho hp e = refl
bases_same [] None (Some b) ho hp e = absurd (cc e)
bases_same [] (Some a) None ho hp e = absurd (cc e)
bases_same [] (Some a) (Some b) ho hp e = ap Some (output_same a b ho hp (cc e))
bases_same (x ∷ t) o p ho hp e = bases_same t o p ho hp (cc e)

-- a text is that of at most one folder name
pub folder_text-injective : (f g : FolderName) → IsName f → IsName g → folder_text f ≡ folder_text g → f ≡ g
folder_text-injective f g hf hg e =
    let m = mode_same f.mode g.mode (id_text f.id ++ base_text f.base) (id_text g.id ++ base_text g.base) e in
    let t = ids_same (id_text f.id) (id_text g.id) f.base g.base (id-lacks 64 at_mark f.id hf.bytes) (id-lacks 64 at_mark g.id hg.bytes) m.1 in
    let i = id_text-injective f.id g.id hf.bytes hg.bytes t in
    let b = bases_same (id_text g.id) f.base g.base hf.base hg.base (ap (λ s. s ++ base_text f.base) (sym t) ∙ m.1) in
    λ j. record { id = i j; mode = m.0 j; base = b j }

slot_is : (a b : SlotParts) → a.folder ≡ b.folder → a.instance ≡ b.instance → a ≡ b
slot_is a b f i = λ j. record { folder = f j; instance = i j }

-- a text is that of at most one slot
pub slot_text-injective : (a b : SlotParts) → IsSlot a → IsSlot b → slot_text a ≡ slot_text b → a ≡ b
slot_text-injective a b ha hb e = by_mode a.folder.mode ha.instance e
  where
    lacks : Lacks 35 (folder_text a.folder)
    lacks = folder-lacks_hash a.folder ha.folder

    plain : a.instance ≡ 0 → folder_text a.folder ++ [] ≡ slot_text b → a ≡ b
    plain i e =
        let parts = plain_parts (folder_text a.folder) b hb lacks (sym (append-nil (folder_text a.folder)) ∙ e) in
        slot_is a b (folder_text-injective a.folder b.folder ha.folder hb.folder parts.0) (i ∙ parts.1)

    by_mode : (m : Mode) → IsInstance m a.instance → folder_text a.folder ++ instance_text m a.instance ≡ slot_text b → a ≡ b
    by_mode Shared i e = plain i e
    by_mode Private i e =
        let parts = marked_parts (slot_text b) (folder_text a.folder) (decimal a.instance) b hb (sym e) lacks refl in
        let instance = decimal_injective a.instance b.instance (omega arith) (omega arith) parts.1 in
        slot_is a b (folder_text-injective a.folder b.folder ha.folder hb.folder parts.0) instance
    by_mode Locked i e = plain i e

-- ---- the program's `==`

modes_are : (m n : Mode) → mode_index m ≡ mode_index n → m ≡ n
modes_are Shared Shared e = refl
modes_are Shared Private e = absurd (omega arith)
modes_are Shared Locked e = absurd (omega arith)
modes_are Private Shared e = absurd (omega arith)
modes_are Private Private e = refl
modes_are Private Locked e = absurd (omega arith)
modes_are Locked Shared e = absurd (omega arith)
modes_are Locked Private e = absurd (omega arith)
modes_are Locked Locked e = refl

base_exact : (a b : Base) → base_eq a b ≡ true → a ≡ b
base_exact a b h =
    let p = and_parts (pointwise eqb a.key.0.0 b.key.0.0) (eqb a.index b.index) h in
    base_is a b ((bytes_eq-Decides a.key.0.0 b.key.0.0).0 p.0) (eqb-true a.index b.index p.1)

option_exact : (o p : Option Base) → option_eq base_eq o p ≡ true → o ≡ p
option_exact None None h = refl
option_exact None (Some b) h = absurd (cc h)
option_exact (Some a) None h = absurd (cc h)
option_exact (Some a) (Some b) h = ap Some (base_exact a b h)

-- equal names are the same
pub folder_exact : (f g : FolderName) → folder_eq f g ≡ true → f ≡ g
folder_exact f g h =
    let p = and_parts (pointwise eqb f.id g.id) (eqb (mode_index f.mode) (mode_index g.mode) && option_eq base_eq f.base g.base) h in
    let q = and_parts (eqb (mode_index f.mode) (mode_index g.mode)) (option_eq base_eq f.base g.base) p.1 in
    let i = (bytes_eq-Decides f.id g.id).0 p.0 in
    let m = modes_are f.mode g.mode (eqb-true _ _ q.0) in
    let b = option_exact f.base g.base q.1 in
    λ j. record { id = i j; mode = m j; base = b j }
