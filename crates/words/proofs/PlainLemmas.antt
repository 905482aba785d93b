-- Words have only visible ASCII bytes, so a line splits exactly at its spaces.
use Rattle.std.proofs.Common.{◌≡◌, ℕ, suc, length, ◌/◌, ◌%◌, ◌<◌, ◌^◌, ◌==◌, ◌&&◌, Bool, true, false, ltb, inl, inr, List, [], ◌∷◌, ◌++◌, map, Option, Some, None, slice_index, refl, sym, ap, ◌∙◌, subst, ltb-true, arith}
use Rattle.std.specs.Prelude.{decimal}
use Rattle.std.specs.List.{All, join_with_byte}
use Rattle.std.specs.Str.{IsUtf8}
use Rattle.std.specs.Str.Parse.{AllDigits, digits_value}
use Rattle.std.proofs.lemmas.Bool.{and_parts, cases_Bool}
use Rattle.std.proofs.lemmas.Bool.Decides.{nat_tests}
use Rattle.std.proofs.lemmas.Fmt.{digits_decimal}
use Rattle.std.proofs.lemmas.List.Elements.{All-nil, All-cons, All-head, All-tail, All-append, All-map, All-weaker, All-from_get_or, All-get_or}
use Rattle.std.proofs.lemmas.List.Splits.{slice_split_at, slice_split_none}
use Rattle.std.proofs.lemmas.Str.{IsUtf8-from_ascii}
use Rattle.std.proofs.lemmas.Str.Ascii.{IsAscii-from_all}
use Rattle.std.proofs.lemmas.Str.Parse.{digit_at, IsNumeralModel, numerals_by_value, tells_digits}
use Rattle.hex.specs.Hex.{IsBytes, encode_lower, encode_with, lower_digits}
use Rattle.names.specs.declared.folder.Base.{Base}
use Rattle.names.specs.declared.folder.FolderName.{FolderName}
use Rattle.names.specs.declared.folder.Mode.{Mode}
use Rattle.names.specs.declared.folder.Mode.TheVariants.{Shared, Private, Locked}
use Rattle.names.specs.declared.number.NodeId.{NodeId}
use Rattle.farm_base.specs.declared.want.Want.{Want}
use Rattle.names.specs.Escapes.{stands, upper_digit, escaped, id_text}
use Rattle.names.specs.Names.{mode_text, output_text, base_text, folder_text, instance_text, slot_text, IsBase, IsName, IsSlot}
use Rattle.names.specs.Slots.{SlotParts, IsInstance}
use Rattle.names.proofs.EscapeLemmas.{stands-parts, escaped_plain, escaped_other, upper_digit-range}
use Rattle.names.specs.declared.digest.Digest.{Digest}
use Rattle.names.specs.Digests.{IsDigest}
use Rattle.words.specs.Words.{words, access_text, want_text, digits_text, node_text, slot_with, IsNode, IsWant}

-- a visible byte of ASCII
abbrev pub IsVisible : ℕ → Type 0
IsVisible b = (32 < b) × (b < 128)

abbrev pub IsWord : List ℕ → Type 0
IsWord word = All IsVisible word

-- ---- tests that compute

abbrev all_visible : List ℕ → Bool
all_visible [] = true
all_visible (b ∷ word) = ltb 32 b && (ltb b 128 && all_visible word)

pub IsWord-from_test : (word : List ℕ) → all_visible word ≡ true → IsWord word
IsWord-from_test [] h = All-nil IsVisible
IsWord-from_test (b ∷ word) h =
    let low = and_parts (ltb 32 b) (ltb b 128 && all_visible word) h in
    let high = and_parts (ltb b 128) (all_visible word) low.1 in
    All-cons IsVisible b word (ltb-true 32 b low.0, ltb-true b 128 high.0) (IsWord-from_test word high.1)

-- ---- numbers and digits

own : IsNumeralModel (AllDigits 10) (digits_value 10)
own = numerals_by_value (AllDigits 10) tells_digits

-- a number's text has only digits
pub decimal_digits : (n : ℕ) → n < 2 ^ 64 → AllDigits 10 (decimal n)
decimal_digits n lt = digits_decimal own n lt

pub decimal_word : (n : ℕ) → n < 2 ^ 64 → IsWord (decimal n)
decimal_word n lt = All-from_get_or IsVisible (decimal n) 0 (λ i inside.
    let range = digit_at (decimal n) i (decimal_digits n lt) inside in
    (omega arith, omega arith))

-- a byte of a table of visible bytes
pub table_word : (t : List ℕ) (i : ℕ) → IsWord t → i < length t → IsVisible (slice_index t i)
table_word t i h lt = All-get_or IsVisible t i 0 lt h

hex_table : IsWord lower_digits
hex_table = IsWord-from_test lower_digits refl

hex_digit : (d : ℕ) → d < 16 → IsVisible (slice_index lower_digits d)
hex_digit d lt = let len : length lower_digits ≡ 16 = refl in table_word lower_digits d hex_table (omega arith)

pub hex_word : (bytes : List ℕ) → IsBytes bytes → IsWord (encode_lower bytes)
unfolding encode_with
hex_word [] h = All-nil IsVisible
hex_word (b ∷ bytes) h =
    let fits : b < 256 = h 0 in
    let rest = hex_word bytes (λ i. h (suc i)) in
    All-cons IsVisible (slice_index lower_digits (b / 16)) (slice_index lower_digits (b % 16) ∷ encode_lower bytes) (hex_digit (b / 16) (omega arith))
    (All-cons IsVisible (slice_index lower_digits (b % 16)) (encode_lower bytes) (hex_digit (b % 16) (omega arith)) rest)

-- ---- folders and slots

escaped_word : (b : ℕ) → b < 256 → IsWord (escaped b)
escaped_word b lt =
    elim (cases_Bool (stands b)) [
      | inl plain ↦
          let parts = stands-parts b plain in
          let low = parts.low in
          let high = parts.high in
          subst IsWord (sym (escaped_plain b plain)) (All-cons IsVisible b [] (omega arith, omega arith) (All-nil IsVisible))
      | inr other ↦
          let x = upper_digit-range (b / 16) (omega arith) in
          let y = upper_digit-range (b % 16) (omega arith) in
          let last : IsWord (upper_digit (b % 16) ∷ []) = All-cons IsVisible (upper_digit (b % 16)) [] (omega arith, omega arith) (All-nil IsVisible) in
          let both : IsWord (upper_digit (b / 16) ∷ upper_digit (b % 16) ∷ []) = All-cons IsVisible (upper_digit (b / 16)) (upper_digit (b % 16) ∷ []) (omega arith, omega arith) last in
          subst IsWord (sym (escaped_other b other)) (All-cons IsVisible 37 (upper_digit (b / 16) ∷ upper_digit (b % 16) ∷ []) (omega arith, omega arith) both)
    ]

id_word : (id : List ℕ) → IsBytes id → IsWord (id_text id)
id_word [] h = All-nil IsVisible
id_word (b ∷ id) h = All-append IsVisible (escaped b) (id_text id) (escaped_word b (h 0)) (id_word id (λ i. h (suc i)))

mode_word : (m : Mode) → IsWord (mode_text m)
mode_word Shared = IsWord-from_test (mode_text Shared) refl
mode_word Private = IsWord-from_test (mode_text Private) refl
mode_word Locked = IsWord-from_test (mode_text Locked) refl

base_word : (o : Option Base) → IsBase o → IsWord (base_text o)
base_word None h = All-nil IsVisible
base_word (Some b) h =
    let small = h.index in
    let index : IsWord (46 ∷ decimal b.index) = All-cons IsVisible 46 (decimal b.index) (omega arith, omega arith) (decimal_word b.index (omega arith)) in
    let output : IsWord (output_text b) = All-append IsVisible (encode_lower b.key.0.0) (46 ∷ decimal b.index) (hex_word b.key.0.0 h.key.1) index in
    All-cons IsVisible 64 (output_text b) (omega arith, omega arith) output

pub folder_word : (f : FolderName) → IsName f → IsWord (folder_text f)
folder_word f h =
    All-append IsVisible (mode_text f.mode) (id_text f.id ++ base_text f.base) (mode_word f.mode)
    (All-append IsVisible (id_text f.id) (base_text f.base) (id_word f.id h.bytes) (base_word f.base h.base))

instance_word : (m : Mode) (n : ℕ) → IsInstance m n → IsWord (instance_text m n)
instance_word Shared n h = All-nil IsVisible
instance_word Private n h = All-cons IsVisible 35 (decimal n) (omega arith, omega arith) (decimal_word n (omega arith))
instance_word Locked n h = All-nil IsVisible

pub slot_word : (s : SlotParts) → IsSlot s → IsWord (slot_text s)
slot_word s h =
    All-append IsVisible (folder_text s.folder) (instance_text s.folder.mode s.instance) (folder_word s.folder h.folder) (instance_word s.folder.mode s.instance h.instance)

-- ---- wants

pub access_word : (writable : Bool) → IsWord (access_text writable)
access_word true = All-nil IsVisible
access_word false = IsWord-from_test (access_text false) refl

pub want_word : (w : Want) → IsWant w → IsWord (want_text w)
want_word w h = All-append IsVisible (access_text w.writable) (folder_text w.folder) (access_word w.writable) (folder_word w.folder h)

pub want_words : (wants : List Want) → All IsWant wants → All IsWord (map want_text wants)
want_words wants h = All-map IsWord want_text wants (All-weaker IsWant (λ w. IsWord (want_text w)) want_word wants h)

-- ---- slots and what stands with them

pub digest_word : (d : Digest) → IsDigest d → IsWord (digits_text d)
digest_word d h = hex_word d.0 h.1

pub with_word : (slot : SlotParts) (behind : List ℕ) → IsSlot slot → IsWord behind → IsWord (slot_with slot behind)
with_word slot behind h hb = All-append IsVisible (slot_text slot) (61 ∷ behind) (slot_word slot h) (All-cons IsVisible 61 behind (omega arith, omega arith) hb)

-- ---- words of a text

-- a word alone
pub last_word : (w : List ℕ) → IsWord w → All IsWord (w ∷ [])
last_word w h = All-cons IsWord w [] h (All-nil IsWord)

-- a node before words
pub node_words : (n : NodeId) (ws : List (List ℕ)) → IsNode n → All IsWord ws → All IsWord (node_text n ∷ ws)
node_words n ws h hs = All-cons IsWord (node_text n) ws (decimal_word n.0 (omega arith)) hs

-- ---- lines

-- no word has a space
no_space : (word : List ℕ) → IsWord word → All (λ b. (b == 32) ≡ false) word
no_space word h = All-weaker IsVisible (λ b. (b == 32) ≡ false) (λ b visible. grind (arith, nat_tests)) word h

-- splitting words that were joined by spaces gives them back
pub words-joined : (w : List ℕ) (ws : List (List ℕ)) → All IsWord (w ∷ ws) → words (join_with_byte 32 (w ∷ ws)) ≡ w ∷ ws
words-joined w [] h = slice_split_none (λ b. b == 32) w (no_space w (All-head IsWord w [] h))
words-joined w (v ∷ ws) h =
    let here = slice_split_at (λ b. b == 32) w 32 (join_with_byte 32 (v ∷ ws)) (no_space w (All-head IsWord w (v ∷ ws) h)) refl in
    here ∙ ap (λ others. w ∷ others) (words-joined v ws (All-tail IsWord w (v ∷ ws) h))

abbrev IsLow : ℕ → Type 0
IsLow b = b < 128

low_word : (word : List ℕ) → IsWord word → All IsLow word
low_word word h = All-weaker IsVisible IsLow (λ b visible. visible.1) word h

joined_low : (ws : List (List ℕ)) → All IsWord ws → All IsLow (join_with_byte 32 ws)
joined_low [] h = All-nil IsLow
joined_low (w ∷ []) h = low_word w (All-head IsWord w [] h)
joined_low (w ∷ v ∷ ws) h =
    All-append IsLow w (32 ∷ join_with_byte 32 (v ∷ ws)) (low_word w (All-head IsWord w (v ∷ ws) h))
    (All-cons IsLow 32 (join_with_byte 32 (v ∷ ws)) (omega arith) (joined_low (v ∷ ws) (All-tail IsWord w (v ∷ ws) h)))

-- words that are joined by spaces are UTF-8
pub joined_utf8 : (ws : List (List ℕ)) → All IsWord ws → IsUtf8 (join_with_byte 32 ws)
joined_utf8 ws h = IsUtf8-from_ascii (join_with_byte 32 ws) (IsAscii-from_all (join_with_byte 32 ws) (joined_low ws h))
