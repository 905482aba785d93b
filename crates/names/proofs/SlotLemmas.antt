-- Texts of slots.
use Rattle.std.proofs.Common.{◌≡◌, ℕ, List, ◌∷◌, ◌++◌, Option, Some, None, refl, sym, ap, ◌∙◌, subst, arith}
use Rattle.std.specs.Prelude.{decimal}
use Rattle.std.proofs.lemmas.List.{append-nil}
use Rattle.std.proofs.lemmas.Fmt.{decimal_injective}
use Rattle.names.specs.declared.folder.Mode.{Mode}
use Rattle.names.specs.declared.folder.Mode.TheVariants.{Shared, Private, Locked}
use Rattle.names.specs.declared.folder.Base.{Base}
use Rattle.names.specs.declared.folder.FolderName.{FolderName}
use Rattle.names.specs.Decimals.{Lacks}
use Rattle.names.specs.Digests.{key_text}
use Rattle.names.specs.Escapes.{id_text}
use Rattle.names.specs.Slots.{SlotParts, IsInstance}
use Rattle.names.specs.Names.{mode_text, output_text, base_text, folder_text, instance_text, slot_text, IsBase, IsName, IsSlot}
use Rattle.names.proofs.TextLemmas.{Lacks-from_test}
use Rattle.names.proofs.NameLemmas.{Lacks-nil, Lacks-cons, Lacks-append, Lacks-middle, split_same, key-lacks, decimal-lacks, id-lacks, hash_mark, mode_same}

mode-lacks_hash : (m : Mode) → Lacks 35 (mode_text m)
mode-lacks_hash Shared = Lacks-from_test 35 (mode_text Shared) refl
mode-lacks_hash Private = Lacks-from_test 35 (mode_text Private) refl
mode-lacks_hash Locked = Lacks-from_test 35 (mode_text Locked) refl

base-lacks_hash : (o : Option Base) → IsBase o → Lacks 35 (base_text o)
base-lacks_hash None h = Lacks-nil 35
base-lacks_hash (Some b) h =
    let small = h.index in
    let index : Lacks 35 (46 ∷ decimal b.index) = Lacks-cons 35 46 (decimal b.index) (λ e. omega arith) (decimal-lacks 35 b.index (omega arith) (omega arith)) in
    let output : Lacks 35 (output_text b) = Lacks-append 35 (key_text b.key) (46 ∷ decimal b.index) (key-lacks 35 refl b h) index in
    Lacks-cons 35 64 (output_text b) (λ e. omega arith) output

-- no folder's text has a `#`
pub folder-lacks_hash : (f : FolderName) → IsName f → Lacks 35 (folder_text f)
folder-lacks_hash f h =
    Lacks-append 35 (mode_text f.mode) (id_text f.id ++ base_text f.base) (mode-lacks_hash f.mode)
    (Lacks-append 35 (id_text f.id) (base_text f.base) (id-lacks 35 hash_mark f.id h.bytes) (base-lacks_hash f.base h.base))

-- a text without `#` is that of a SHARED or LOCKED slot
pub plain_parts : (text : List ℕ) (s : SlotParts) → IsSlot s → Lacks 35 text → text ≡ slot_text s
    → (text ≡ folder_text s.folder) × (0 ≡ s.instance)
plain_parts text s h l e = by_mode s.folder.mode h.instance e
  where
    by_mode : (m : Mode) → IsInstance m s.instance → text ≡ folder_text s.folder ++ instance_text m s.instance
        → (text ≡ folder_text s.folder) × (0 ≡ s.instance)
    by_mode Shared i e = (e ∙ append-nil (folder_text s.folder), sym i)
    by_mode Private i e = absurd (Lacks-middle 35 (folder_text s.folder) (decimal s.instance) (subst (Lacks 35) e l))
    by_mode Locked i e = (e ∙ append-nil (folder_text s.folder), sym i)

-- a text with `#` is that of a PRIVATE slot
pub marked_parts : (text folder instance : List ℕ) (s : SlotParts) → IsSlot s → text ≡ folder ++ 35 ∷ instance → Lacks 35 folder → text ≡ slot_text s
    → (folder ≡ folder_text s.folder) × (instance ≡ decimal s.instance) × IsInstance Private s.instance
marked_parts text folder instance s h e l is = by_mode s.folder.mode h.instance is
  where
    by_mode : (m : Mode) → IsInstance m s.instance → text ≡ folder_text s.folder ++ instance_text m s.instance
        → (folder ≡ folder_text s.folder) × (instance ≡ decimal s.instance) × IsInstance Private s.instance
    by_mode Shared i is =
        absurd (Lacks-middle 35 folder instance (subst (Lacks 35) (sym (append-nil (folder_text s.folder)) ∙ sym is ∙ e) (folder-lacks_hash s.folder h.folder)))
    by_mode Private i is =
        let p = split_same 35 folder (folder_text s.folder) instance (decimal s.instance) (sym e ∙ is) l (folder-lacks_hash s.folder h.folder) in
        (p.0, p.1, i)
    by_mode Locked i is =
        absurd (Lacks-middle 35 folder instance (subst (Lacks 35) (sym (append-nil (folder_text s.folder)) ∙ sym is ∙ e) (folder-lacks_hash s.folder h.folder)))

-- the text with the instance 0
pub plain_spelled : (text : List ℕ) (m : Mode) → IsInstance m 0 → text ≡ text ++ instance_text m 0
plain_spelled text Shared i = sym (append-nil text)
plain_spelled text Private i = absurd (omega arith)
plain_spelled text Locked i = sym (append-nil text)

-- the text with an instance of a PRIVATE folder
pub marked_spelled : (text folder instance : List ℕ) (n : ℕ) → text ≡ folder ++ 35 ∷ instance → instance ≡ decimal n → IsInstance Private n
    → (m : Mode) → IsInstance m n → text ≡ folder ++ instance_text m n
marked_spelled text folder instance n e is range Shared i = absurd (omega arith)
marked_spelled text folder instance n e is range Private i = e ∙ ap (λ t. folder ++ 35 ∷ t) is
marked_spelled text folder instance n e is range Locked i = absurd (omega arith)

-- the instance is determined
pub same_instance : (instance : List ℕ) (m n : ℕ) → IsInstance Private m → IsInstance Private n → instance ≡ decimal m → instance ≡ decimal n → m ≡ n
same_instance instance m n hm hn em en = decimal_injective m n (omega arith) (omega arith) (sym em ∙ en)

-- the mode is determined
pub same_mode : (text : List ℕ) (f g : FolderName) → text ≡ folder_text f → text ≡ folder_text g → f.mode ≡ g.mode
same_mode text f g ef eg = (mode_same f.mode g.mode (id_text f.id ++ base_text f.base) (id_text g.id ++ base_text g.base) (sym ef ∙ eg)).0
