-- What stands in a line has no LF, whatever its numbers and bytes.
use Rattle.std.proofs.Common.{◌≡◌, ◌≢◌, ℕ, zero, suc, ◌+◌, ◌/◌, ◌%◌, ◌==◌, Bool, true, false, List, [], ◌∷◌, ◌++◌, map, codes, Option, Some, None, slice_index, inl, inr, refl, sym, ap, subst, arith}
use Rattle.std.specs.Prelude.{decimal, nat_lt}
use Rattle.std.specs.Fmt.{digit_glyph, digits_onto, digits}
use Rattle.std.specs.List.{All, flat_map, join_with_byte}
use Rattle.std.proofs.lemmas.Bool.{cases_Bool}
use Rattle.std.proofs.lemmas.List.Elements.{All-nil, All-cons, All-head, All-tail, All-get_or}
use Rattle.hex.specs.Hex.{encode_lower, encode_with, lower_digits}
use Rattle.seals.specs.Macs.{hmac_sha256}
use Rattle.names.specs.Decimals.{Lacks}
use Rattle.names.specs.declared.folder.Base.{Base}
use Rattle.names.specs.declared.folder.FolderName.{FolderName}
use Rattle.names.specs.declared.folder.Mode.{Mode}
use Rattle.names.specs.declared.folder.Mode.TheVariants.{Shared, Private, Locked}
use Rattle.names.specs.declared.digest.Digest.{Digest}
use Rattle.names.specs.Escapes.{stands, upper_digit, escaped, id_text}
use Rattle.names.specs.Names.{mode_text, output_text, base_text, folder_text, instance_text, slot_text}
use Rattle.names.specs.Slots.{SlotParts}
use Rattle.names.proofs.EscapeLemmas.{stands-parts, escaped_plain, escaped_other}
use Rattle.names.proofs.TextLemmas.{Lacks-nil, Lacks-cons, Lacks-append, Lacks-from_test}
use Rattle.farm_base.specs.declared.lease.LeaseKind.{LeaseKind}
use Rattle.farm_base.specs.declared.lease.LeaseKind.TheVariants as kind
use Rattle.farm_base.specs.declared.message.Confirmed.{Confirmed}
use Rattle.farm_base.specs.declared.message.Grant.{Grant}
use Rattle.farm_base.specs.declared.message.GrantedSlot.{GrantedSlot}
use Rattle.farm_base.specs.declared.message.Message.{Message}
use Rattle.farm_base.specs.declared.message.Why.{Why}
use Rattle.farm_base.specs.declared.message.Why.TheVariants.{InstancesSpent, TicketsSpent}
use Rattle.farm_base.specs.declared.want.Want.{Want}
use Rattle.words.specs.Words.{access_text, want_text, digits_text, slot_with, why_text}
use Rattle.words.proofs.PlainLemmas.{IsVisible, IsWord}
use Rattle.farmwire.specs.Lines.{version_text, confirmed_text, granted_text, kind_text, grant_words, message_text}
use Rattle.farmwire.specs.Sealed.{IsSealed, IsUnder}
use Rattle.names.specs.declared.number.NodeId.{NodeId}
use Rattle.protocol.specs.Hostile.{key_of}
use Rattle.seals.specs.Keyrings.{Keys}
use Rattle.farmwire.specs.Words.{spaced, verb_text}
use Rattle.farmwire.proofs.SpelledLemmas.{saying, saying_words}

abbrev pub NoEnd : List ℕ → Type 0
NoEnd text = Lacks 10 text

-- ---- numbers and digits

glyph : (d : ℕ) → digit_glyph false d ≢ 10
glyph d e = elim (cases_Bool (nat_lt d 10)) [
  | inl t ↦ (let bad : 48 + d ≡ 10 = rw t at e in omega arith)
  | inr t ↦ (let bad : 87 + d ≡ 10 = rw t at e in omega arith)
]

onto_ends : (k n : ℕ) (acc : List ℕ) → NoEnd acc → NoEnd (digits_onto k 10 false n acc)
onto_ends zero n acc h = h
onto_ends (suc k) n acc h =
    let more : NoEnd (digit_glyph false (n % 10) ∷ acc) = Lacks-cons 10 (digit_glyph false (n % 10)) acc (glyph (n % 10)) h in
    elim (cases_Bool (n / 10 == 0)) [ inl t ↦ rw t more | inr t ↦ rw t (onto_ends k (n / 10) (digit_glyph false (n % 10) ∷ acc) more) ]

pub decimal_ends : (n : ℕ) → NoEnd (decimal n)
unfolding digits
decimal_ends n = onto_ends 64 n [] (Lacks-nil 10)

-- a byte of a table, or 0 behind it
table_lacks : (c : ℕ) → 0 ≢ c → (t : List ℕ) (i : ℕ) → Lacks c t → slice_index t i ≢ c
table_lacks c zeros [] i h e = zeros e
table_lacks c zeros (b ∷ t) zero h e = h 0 (omega arith) e
table_lacks c zeros (b ∷ t) (suc i) h e = table_lacks c zeros t i (λ j inside. h (suc j) (omega arith)) e

-- a byte that is no digit isn't in the digits of any bytes
pub hex_lacks : (c : ℕ) → 0 ≢ c → Lacks c lower_digits → (bytes : List ℕ) → Lacks c (encode_lower bytes)
unfolding encode_with
hex_lacks c zeros table [] = Lacks-nil c
hex_lacks c zeros table (b ∷ bytes) =
    Lacks-cons c (slice_index lower_digits (b / 16)) (slice_index lower_digits (b % 16) ∷ encode_lower bytes) (table_lacks c zeros lower_digits (b / 16) table)
    (Lacks-cons c (slice_index lower_digits (b % 16)) (encode_lower bytes) (table_lacks c zeros lower_digits (b % 16) table) (hex_lacks c zeros table bytes))

pub hex_ends : (bytes : List ℕ) → NoEnd (encode_lower bytes)
hex_ends bytes = hex_lacks 10 (λ e. omega arith) (Lacks-from_test 10 lower_digits refl) bytes

-- ---- folders and slots

upper_ends : (d : ℕ) → upper_digit d ≢ 10
unfolding upper_digit
upper_ends d e = elim (cases_Bool (nat_lt d 10)) [
  | inl t ↦ (let bad : 48 + d ≡ 10 = rw t at e in omega arith)
  | inr t ↦ (let bad : 55 + d ≡ 10 = rw t at e in omega arith)
]

escaped_ends : (b : ℕ) → NoEnd (escaped b)
escaped_ends b =
    elim (cases_Bool (stands b)) [
      | inl plain ↦
          let low = (stands-parts b plain).low in
          subst NoEnd (sym (escaped_plain b plain)) (Lacks-cons 10 b [] (λ e. omega arith) (Lacks-nil 10))
      | inr other ↦
          subst NoEnd (sym (escaped_other b other)) (Lacks-cons 10 37 (upper_digit (b / 16) ∷ upper_digit (b % 16) ∷ []) (λ e. omega arith)
          (Lacks-cons 10 (upper_digit (b / 16)) (upper_digit (b % 16) ∷ []) (upper_ends (b / 16)) (Lacks-cons 10 (upper_digit (b % 16)) [] (upper_ends (b % 16)) (Lacks-nil 10))))
    ]

pub each_ends : {X : Type 0} (text : X → List ℕ) → ((x : X) → NoEnd (text x)) → (xs : List X) → NoEnd (flat_map text xs)
each_ends text one [] = Lacks-nil 10
each_ends text one (x ∷ xs) = Lacks-append 10 (text x) (flat_map text xs) (one x) (each_ends text one xs)

mode_ends : (m : Mode) → NoEnd (mode_text m)
mode_ends Shared = Lacks-from_test 10 (mode_text Shared) refl
mode_ends Private = Lacks-from_test 10 (mode_text Private) refl
mode_ends Locked = Lacks-from_test 10 (mode_text Locked) refl

base_ends : (o : Option Base) → NoEnd (base_text o)
base_ends None = Lacks-nil 10
base_ends (Some b) =
    Lacks-cons 10 64 (output_text b) (λ e. omega arith)
    (Lacks-append 10 (encode_lower b.key.0.0) (46 ∷ decimal b.index) (hex_ends b.key.0.0) (Lacks-cons 10 46 (decimal b.index) (λ e. omega arith) (decimal_ends b.index)))

pub folder_ends : (f : FolderName) → NoEnd (folder_text f)
folder_ends f =
    Lacks-append 10 (mode_text f.mode) (id_text f.id ++ base_text f.base) (mode_ends f.mode)
    (Lacks-append 10 (id_text f.id) (base_text f.base) (each_ends escaped escaped_ends f.id) (base_ends f.base))

instance_ends : (m : Mode) (n : ℕ) → NoEnd (instance_text m n)
instance_ends Shared n = Lacks-nil 10
instance_ends Private n = Lacks-cons 10 35 (decimal n) (λ e. omega arith) (decimal_ends n)
instance_ends Locked n = Lacks-nil 10

pub slot_ends : (s : SlotParts) → NoEnd (slot_text s)
slot_ends s = Lacks-append 10 (folder_text s.folder) (instance_text s.folder.mode s.instance) (folder_ends s.folder) (instance_ends s.folder.mode s.instance)

pub access_ends : (writable : Bool) → NoEnd (access_text writable)
access_ends true = Lacks-nil 10
access_ends false = Lacks-from_test 10 (access_text false) refl

pub want_ends : (w : Want) → NoEnd (want_text w)
want_ends w = Lacks-append 10 (access_text w.writable) (folder_text w.folder) (access_ends w.writable) (folder_ends w.folder)

-- ---- words

pub digest_ends : (d : Digest) → NoEnd (digits_text d)
digest_ends d = hex_ends d.0

pub why_ends : (why : Why) → NoEnd (why_text why)
why_ends InstancesSpent = Lacks-from_test 10 (why_text InstancesSpent) refl
why_ends TicketsSpent = Lacks-from_test 10 (why_text TicketsSpent) refl

pub kind_ends : (k : LeaseKind) → NoEnd (kind_text k)
kind_ends kind.Plain = Lacks-from_test 10 (kind_text kind.Plain) refl
kind_ends kind.Shared = Lacks-from_test 10 (kind_text kind.Shared) refl
kind_ends kind.Tenure = Lacks-from_test 10 (kind_text kind.Tenure) refl

version_ends : (number : ℕ) (d : Digest) → NoEnd (version_text number d)
version_ends number d = Lacks-append 10 (decimal number) (58 ∷ digits_text d) (decimal_ends number) (Lacks-cons 10 58 (digits_text d) (λ e. omega arith) (digest_ends d))

with_ends : (slot : SlotParts) (behind : List ℕ) → NoEnd behind → NoEnd (slot_with slot behind)
with_ends slot behind h = Lacks-append 10 (slot_text slot) (61 ∷ behind) (slot_ends slot) (Lacks-cons 10 61 behind (λ e. omega arith) h)

confirmed_ends : (version : Confirmed) → NoEnd (confirmed_text version)
confirmed_ends version = with_ends version.slot (version_text version.number version.digest) (version_ends version.number version.digest)

granted_ends : (granted : GrantedSlot) → NoEnd (granted_text granted)
granted_ends granted =
    Lacks-append 10 (access_text granted.writable) (slot_with granted.slot (version_text granted.base granted.digest)) (access_ends granted.writable)
    (with_ends granted.slot (version_text granted.base granted.digest) (version_ends granted.base granted.digest))

-- ---- words of a line

pub one_word : (word : List ℕ) → NoEnd word → All NoEnd (word ∷ [])
one_word word h = All-cons NoEnd word [] h (All-nil NoEnd)

each_word : {X : Type 0} (text : X → List ℕ) → ((x : X) → NoEnd (text x)) → (xs : List X) → All NoEnd (map text xs)
each_word text one [] = All-nil NoEnd
each_word text one (x ∷ xs) = All-cons NoEnd (text x) (map text xs) (one x) (each_word text one xs)

pub want_words_end : (wants : List Want) → All NoEnd (map want_text wants)
want_words_end wants = each_word want_text want_ends wants

pub confirmed_words_end : (versions : List Confirmed) → All NoEnd (map confirmed_text versions)
confirmed_words_end versions = each_word confirmed_text confirmed_ends versions

pub number_word : (n : ℕ) (ws : List (List ℕ)) → All NoEnd ws → All NoEnd (decimal n ∷ ws)
number_word n ws h = All-cons NoEnd (decimal n) ws (decimal_ends n) h

pub grant_words_end : (g : Grant) → All NoEnd (grant_words g)
grant_words_end g =
    let slots : List (List ℕ) = kind_text g.kind ∷ map granted_text g.slots in
    let ticket : List (List ℕ) = decimal g.ticket.0 ∷ slots in
    let ask : List (List ℕ) = decimal g.ask.0 ∷ ticket in
    number_word g.node.0 (decimal g.life.0 ∷ ask) (number_word g.life.0 ask (number_word g.ask.0 ticket (number_word g.ticket.0 slots
    (All-cons NoEnd (kind_text g.kind) (map granted_text g.slots) (kind_ends g.kind) (each_word granted_text granted_ends g.slots)))))

pub spaced_ends : (ws : List (List ℕ)) → All NoEnd ws → NoEnd (spaced ws)
spaced_ends [] h = Lacks-nil 10
spaced_ends (w ∷ ws) h =
    Lacks-cons 10 32 (w ++ spaced ws) (λ e. omega arith) (Lacks-append 10 w (spaced ws) (All-head NoEnd w ws h) (spaced_ends ws (All-tail NoEnd w ws h)))

-- ---- sealed lines

visible_ends : (w : List ℕ) → IsWord w → NoEnd w
visible_ends w h i inside = (let seen : IsVisible (slice_index w i) = All-get_or IsVisible w i 0 inside h in let low = seen.0 in λ e. omega arith)

joined_ends : (ws : List (List ℕ)) → All IsWord ws → NoEnd (join_with_byte 32 ws)
joined_ends [] h = Lacks-nil 10
joined_ends (w ∷ []) h = visible_ends w (All-head IsWord w [] h)
joined_ends (w ∷ v ∷ ws) h =
    Lacks-append 10 w (32 ∷ join_with_byte 32 (v ∷ ws)) (visible_ends w (All-head IsWord w (v ∷ ws) h))
    (Lacks-cons 10 32 (join_with_byte 32 (v ∷ ws)) (λ e. omega arith) (joined_ends (v ∷ ws) (All-tail IsWord w (v ∷ ws) h)))

under_ends : (keys : Keys) (owner : Option NodeId) (text line : List ℕ) → NoEnd text → IsUnder keys owner text line → NoEnd line
under_ends keys (Some node) text line h is =
    let mac = encode_lower (hmac_sha256 is.key text) in
    subst NoEnd (sym is.sealed) (Lacks-append 10 text (32 ∷ mac) h (Lacks-cons 10 32 mac (λ e. omega arith) (hex_ends (hmac_sha256 is.key text))))
under_ends keys None text line h is = subst NoEnd (sym is) (Lacks-append 10 text (codes " -") h (Lacks-from_test 10 (codes " -") refl))

pub sealed_ends : (keys : Keys) (line : List ℕ) (m : Message) → IsSealed keys line m → NoEnd line
sealed_ends keys line m h =
    let s = saying m h.lawful in
    let text : NoEnd (message_text m) = subst NoEnd (sym (ap (join_with_byte 32) s.words_are)) (joined_ends (verb_text s.verb ∷ s.behind) (saying_words s)) in
    under_ends keys (key_of m) (message_text m) line text h.text
