-- Texts of names: which bytes they lack, and that their parts are determined.
use Rattle.std.proofs.Common.{◌≡◌, ◌≢◌, ℕ, suc, ◌/◌, ◌%◌, ◌<◌, ◌^◌, false, List, [], ◌∷◌, ◌++◌, length, get_or, Option, Some, None, inl, inr, refl, sym, ap, ◌∙◌, subst, arith, append_assoc}
use Rattle.std.specs.Prelude.{decimal}
use Rattle.std.proofs.lemmas.Bool.{cases_Bool}
use Rattle.std.proofs.lemmas.List.{append-nil}
use Rattle.std.proofs.lemmas.Fmt.{decimal_injective}
use Rattle.hex.specs.Hex.{IsBytes, hex_digit_value}
use Rattle.names.specs.declared.folder.Mode.{Mode}
use Rattle.names.specs.declared.folder.Mode.TheVariants.{Shared, Private, Locked}
use Rattle.names.specs.Decimals.{Lacks}
use Rattle.names.specs.Escapes.{stands, upper_digit, escaped, id_text}
use Rattle.names.specs.declared.folder.Base.{Base}
use Rattle.names.specs.declared.folder.FolderName.{FolderName}
use Rattle.names.specs.Digests.{key_text}
use Rattle.names.specs.Names.{mode_text, output_text, base_text, folder_text, IsOutput, IsBase, IsName}
use Rattle.names.proofs.EscapeLemmas.{stands-parts, escaped_plain, escaped_other, upper_digit-injective, upper_digit-range}
pub use Rattle.names.proofs.TextLemmas.{Lacks-nil, Lacks-cons, Lacks-head, Lacks-tail, Lacks-append, Lacks-middle, heads, split_same, encode-lacks, decimal-lacks, IsBytes-nil, IsBytes-push}

-- ---- ids

-- `#` and `@` are always escaped
pub record IsMark (c : ℕ) : Type 0 where
  pub escapes : stands c ≡ false
  pub no_percent : 37 ≢ c
  pub no_digit : (d : ℕ) → d < 16 → upper_digit d ≢ c

pub escaped-lacks : (c : ℕ) → IsMark c → (b : ℕ) → b < 256 → Lacks c (escaped b)
escaped-lacks c mark b lt =
    elim (cases_Bool (stands b)) [
      | inl plain ↦ let stays : b ≢ c = λ e. (let same = ap stands e in cc (same, plain, mark.escapes)) in
          let one : Lacks c (b ∷ []) = Lacks-cons c b [] stays (Lacks-nil c) in
          subst (Lacks c) (sym (escaped_plain b plain)) one
      | inr other ↦
          let low : Lacks c (upper_digit (b % 16) ∷ []) = Lacks-cons c (upper_digit (b % 16)) [] (mark.no_digit (b % 16) (omega arith)) (Lacks-nil c) in
          let high : Lacks c (upper_digit (b / 16) ∷ upper_digit (b % 16) ∷ []) = Lacks-cons c (upper_digit (b / 16)) (upper_digit (b % 16) ∷ []) (mark.no_digit (b / 16) (omega arith)) low in
          let whole : Lacks c (37 ∷ upper_digit (b / 16) ∷ upper_digit (b % 16) ∷ []) = Lacks-cons c 37 (upper_digit (b / 16) ∷ upper_digit (b % 16) ∷ []) mark.no_percent high in
          subst (Lacks c) (sym (escaped_other b other)) whole
    ]

pub id-lacks : (c : ℕ) → IsMark c → (id : List ℕ) → IsBytes id → Lacks c (id_text id)
id-lacks c mark [] h = Lacks-nil c
id-lacks c mark (b ∷ id) h = Lacks-append c (escaped b) (id_text id) (escaped-lacks c mark b (h 0)) (id-lacks c mark id (λ i. h (suc i)))

pub at_mark : IsMark 64
unfolding stands
at_mark = record { escapes = refl; no_percent = λ e. omega arith; no_digit = λ d lt. (upper_digit-range d lt).2 }

pub hash_mark : IsMark 35
unfolding stands
hash_mark = record { escapes = refl; no_percent = λ e. omega arith; no_digit = λ d lt e. (let r = upper_digit-range d lt in omega arith) }

-- the first byte is determined
pub escaped_same : (a b : ℕ) (x y : List ℕ) → a < 256 → b < 256 → escaped a ++ x ≡ escaped b ++ y → (a ≡ b) × (x ≡ y)
escaped_same a b x y la lb e =
    elim (cases_Bool (stands a)) [
      | inl plain_a ↦ elim (cases_Bool (stands b)) [
        | inl plain_b ↦ heads a b x y (rw (escaped_plain a plain_a, escaped_plain b plain_b) at e)
        | inr other_b ↦ absurd ((stands-parts a plain_a).no_percent (heads a 37 _ _ (rw (escaped_plain a plain_a, escaped_other b other_b) at e)).0)
      ]
      | inr other_a ↦ elim (cases_Bool (stands b)) [
        | inl plain_b ↦ absurd ((stands-parts b plain_b).no_percent (sym (heads 37 b _ _ (rw (escaped_other a other_a, escaped_plain b plain_b) at e)).0))
        | inr other_b ↦
            let h = heads 37 37 _ _ (rw (escaped_other a other_a, escaped_other b other_b) at e) in
            let h1 = heads _ _ _ _ h.1 in
            let h2 = heads _ _ _ _ h1.1 in
            let high = upper_digit-injective (a / 16) (b / 16) (omega arith) (omega arith) h1.0 in
            let low = upper_digit-injective (a % 16) (b % 16) (omega arith) (omega arith) h2.0 in
            (omega arith, h2.1)
      ]
    ]

-- what is left of the text of an id is the text of what is left of the id
pub rest_of_id : (out id rest : List ℕ) → IsBytes out → IsBytes id → id_text out ++ rest ≡ id_text id
    → (left : List ℕ) × IsBytes left × (id ≡ out ++ left) × (rest ≡ id_text left)
rest_of_id [] id rest ho hi e = (id, hi, refl, e)
rest_of_id (a ∷ out) [] rest ho hi e = absurd (never a (id_text out) rest e)
  where
    never : (a : ℕ) (t rest : List ℕ) → (escaped a ++ t) ++ rest ≡ [] → ⊥
    never a t rest e =
        elim (cases_Bool (stands a)) [
          | inl plain ↦ cc (rw (escaped_plain a plain) at e)
          | inr other ↦ cc (rw (escaped_other a other) at e)
        ]
rest_of_id (a ∷ out) (b ∷ id) rest ho hi e =
    let e' : escaped a ++ (id_text out ++ rest) ≡ escaped b ++ id_text id = sym (append_assoc (escaped a) (id_text out) rest) ∙ e in
    let h = escaped_same a b _ _ (ho 0) (hi 0) e' in
    let r = rest_of_id out id rest (λ i. ho (suc i)) (λ i. hi (suc i)) h.1 in
    (r.0, r.1, cc (h.0, r.2), r.3)

pub id_text-injective : (a b : List ℕ) → IsBytes a → IsBytes b → id_text a ≡ id_text b → a ≡ b
id_text-injective a b ha hb e =
    let r = rest_of_id a b [] ha hb (append-nil (id_text a) ∙ e) in
    nothing_left a b r.0 r.2 r.3
  where
    nothing_left : (a b left : List ℕ) → b ≡ a ++ left → [] ≡ id_text left → a ≡ b
    nothing_left a b [] is none = sym (is ∙ append-nil a)
    nothing_left a b (c ∷ left) is none =
        elim (cases_Bool (stands c)) [
          | inl plain ↦ absurd (cc (rw (escaped_plain c plain) at none))
          | inr other ↦ absurd (cc (rw (escaped_other c other) at none))
        ]

-- ---- modes

pub mode_same : (m n : Mode) (x y : List ℕ) → mode_text m ++ x ≡ mode_text n ++ y → (m ≡ n) × (x ≡ y)
mode_same Shared Shared x y e = (refl, cc e)
mode_same Shared Private x y e = let h = ap (λ t. get_or t 0 0) e in absurd (omega arith)
mode_same Shared Locked x y e = let h = ap (λ t. get_or t 0 0) e in absurd (omega arith)
mode_same Private Shared x y e = let h = ap (λ t. get_or t 0 0) e in absurd (omega arith)
mode_same Private Private x y e = (refl, cc e)
mode_same Private Locked x y e = let h = ap (λ t. get_or t 0 0) e in absurd (omega arith)
mode_same Locked Shared x y e = let h = ap (λ t. get_or t 0 0) e in absurd (omega arith)
mode_same Locked Private x y e = let h = ap (λ t. get_or t 0 0) e in absurd (omega arith)
mode_same Locked Locked x y e = (refl, cc e)

-- ---- bases

pub key-lacks : (c : ℕ) → hex_digit_value c ≡ None → (b : Base) → IsOutput b → Lacks c (key_text b.key)
key-lacks c no_digit b h = encode-lacks c no_digit b.key.0.0 h.key.1

-- a text without `.` does not spell a base
pub output_no_dot : (text : List ℕ) (b : Base) → Lacks 46 text → text ≡ output_text b → ⊥
output_no_dot text b l e = Lacks-middle 46 (key_text b.key) (decimal b.index) (subst (Lacks 46) e l)

-- what stands around the first `.` of a base's text
pub output_parts : (text key index : List ℕ) (b : Base) → IsOutput b → text ≡ key ++ 46 ∷ index → Lacks 46 key → text ≡ output_text b
    → (key ≡ key_text b.key) × (index ≡ decimal b.index)
output_parts text key index b h e l is = split_same 46 key (key_text b.key) index (decimal b.index) (sym e ∙ is) l (key-lacks 46 refl b h)

-- the number of the index is determined
pub output_index : (index : List ℕ) (n : ℕ) (b : Base) → IsOutput b → n < 2 ^ 64 → index ≡ decimal n → index ≡ decimal b.index → n < 2 ^ 63
output_index index n b h lt e is =
    let same = decimal_injective n b.index lt (let small = h.index in omega arith) (sym e ∙ is) in
    let small = h.index in
    omega arith

-- ---- loops over ids

-- the rest behind a byte's spelling is shorter
pub escaped-shorter : (b : ℕ) (rest tail : List ℕ) → rest ≡ escaped b ++ tail → length tail < length rest
escaped-shorter b rest tail e =
    elim (cases_Bool (stands b)) [
      | inl plain ↦ let h = ap length (rw (escaped_plain b plain) at e) in omega arith
      | inr other ↦ let h = ap length (rw (escaped_other b other) at e) in omega arith
    ]

-- a text that is not over and doesn't go on with a byte's spelling is not that of an id
pub stuck : (text out rest id : List ℕ) → IsBytes out → IsBytes id → text ≡ id_text out ++ rest → text ≡ id_text id → 0 < length rest
    → ((b : ℕ) (tail : List ℕ) → b < 256 → rest ≢ escaped b ++ tail) → ⊥
stuck text out rest id ho hi so si long only =
    let r = rest_of_id out id rest ho hi (sym so ∙ si) in
    ends r.0 rest r.1 r.3 long only
  where
    ends : (left rest : List ℕ) → IsBytes left → rest ≡ id_text left → 0 < length rest
        → ((b : ℕ) (tail : List ℕ) → b < 256 → rest ≢ escaped b ++ tail) → ⊥
    ends [] rest h e long only = let none = ap length e in omega arith
    ends (b ∷ left) rest h e long only = only b (id_text left) (h 0) e

-- ---- names

-- ids before bases
pub ids_same : (i j : List ℕ) (o p : Option Base) → Lacks 64 i → Lacks 64 j → i ++ base_text o ≡ j ++ base_text p → i ≡ j
ids_same i j None None li lj e = sym (append-nil i) ∙ e ∙ append-nil j
ids_same i j None (Some b) li lj e = absurd (Lacks-middle 64 j (output_text b) (subst (Lacks 64) (sym (append-nil i) ∙ e) li))
ids_same i j (Some a) None li lj e = absurd (Lacks-middle 64 i (output_text a) (subst (Lacks 64) (sym (e ∙ append-nil j)) lj))
ids_same i j (Some a) (Some b) li lj e = (split_same 64 i j (output_text a) (output_text b) e li lj).0

-- the spelling of the id is determined
pub id_spelled : (text i : List ℕ) (m : Mode) (o : Option Base) (f : FolderName) → IsName f
    → text ≡ mode_text m ++ (i ++ base_text o) → Lacks 64 i → text ≡ folder_text f → i ≡ id_text f.id
id_spelled text i m o f h e l is =
    let rest = (mode_same m f.mode (i ++ base_text o) (id_text f.id ++ base_text f.base) (sym e ∙ is)).1 in
    ids_same i (id_text f.id) o f.base l (id-lacks 64 at_mark f.id h.bytes) rest

-- what stands behind `@` is the text of a base
pub base_spelled : (text rest id base : List ℕ) (m : Mode) (f : FolderName) → IsName f
    → text ≡ mode_text m ++ rest → rest ≡ id ++ 64 ∷ base → Lacks 64 id → text ≡ folder_text f
    → ((b : Base) → IsOutput b → base ≢ output_text b) → ⊥
base_spelled text rest id base m f h e parts l is only =
    let tail = (mode_same m f.mode rest (id_text f.id ++ base_text f.base) (sym e ∙ is)).1 in
    behind f.base h.base (sym parts ∙ tail)
  where
    behind : (o : Option Base) → IsBase o → id ++ 64 ∷ base ≡ id_text f.id ++ base_text o → ⊥
    behind None ok same = Lacks-middle 64 id base (subst (Lacks 64) (sym (same ∙ append-nil (id_text f.id))) (id-lacks 64 at_mark f.id h.bytes))
    behind (Some b) ok same = only b ok (split_same 64 id (id_text f.id) base (output_text b) same l (id-lacks 64 at_mark f.id h.bytes)).1
