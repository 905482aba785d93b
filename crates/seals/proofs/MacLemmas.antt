-- The MAC of a line.
use Rattle.std.proofs.Common.{◌≡◌, ℕ, zero, suc, ◌+◌, ◌-◌, ◌*◌, ◌<◌, List, [], ◌∷◌, ◌++◌, take, drop, length, slice_index, get_or, replicate, set, refl, sym, ap, ◌∙◌, arith, length-append}
use Rattle.std.proofs.lemmas.List.{take_at, drop_at, take_more, take_more_set, map-append, drop-replicate}
use Rattle.std.specs.Prelude.{bit_xor}
use Rattle.std.proofs.Math.Seq.{take-length}
use Rattle.hex.specs.Hex.{encode_lower, encode_with}
use Rattle.std.specs.Int.{w32, to_be_bytes}
use Rattle.sha2.specs.Sha256.{sha256, digest_bytes}
use Rattle.seals.specs.Macs.{hmac_sha256, block_xor}
use Rattle.seals.specs.Seals.{with_mac}

length-digest_bytes : (h : List ℕ) (n : ℕ) → length (digest_bytes h n) ≡ 4 * n
unfolding digest_bytes
length-digest_bytes h zero = refl
length-digest_bytes h (suc n) = let front = length-digest_bytes h n in omega (arith, length-append (digest_bytes h n) (to_be_bytes w32 (slice_index h n)))

pub length-sha256 : (text : List ℕ) → length (sha256 text) ≡ 32
unfolding sha256
length-sha256 text = length-digest_bytes _ 8

pub length-hmac : (key text : List ℕ) → length (hmac_sha256 key text) ≡ 32
unfolding hmac_sha256
length-hmac key text = length-sha256 _

length-encode : (bytes : List ℕ) → length (encode_lower bytes) ≡ 2 * length bytes
unfolding encode_with
length-encode [] = refl
length-encode (b ∷ bytes) = let rest = length-encode bytes in omega arith

-- the digits of a MAC are 64
pub length-mac : (key text : List ℕ) → length (encode_lower (hmac_sha256 key text)) ≡ 64
length-mac key text = omega (arith, length-encode (hmac_sha256 key text), length-hmac key text)

-- a line with a MAC is longer than its text by a space and the digits
pub length-with_mac : (key text : List ℕ) → length (with_mac key text) ≡ length text + 65
length-with_mac key text = omega (arith, length-append text (32 ∷ encode_lower (hmac_sha256 key text)), length-mac key text)

-- what stands before and behind the text of a line
pub cut : (key line text : List ℕ) → line ≡ with_mac key text
    → (take (length line - 65) line ≡ text) × (drop (length line - 65) line ≡ 32 ∷ encode_lower (hmac_sha256 key text))
cut key line text e =
    let len = length-with_mac key text in
    let at : length text ≡ length line - 65 = omega (arith, ap length e) in
    let mac = 32 ∷ encode_lower (hmac_sha256 key text) in
    (ap (take (length line - 65)) e ∙ take_at text mac (length line - 65) at, ap (drop (length line - 65)) e ∙ drop_at text mac (length line - 65) at)

-- the text of a line is determined
pub same_text : (key line s t : List ℕ) → line ≡ with_mac key s → line ≡ with_mac key t → s ≡ t
same_text key line s t hs ht = sym (cut key line s hs).0 ∙ (cut key line t ht).0

-- ---- blocks

-- one more byte of a block
pub xor_more : (new block : List ℕ) (i pad : ℕ) → i < length new → i < length block → take i new ≡ block_xor (take i block) pad
    → take (i + 1) (set new i (bit_xor (get_or block i 0) pad)) ≡ block_xor (take (i + 1) block) pad
xor_more new block i pad inside within so_far =
    let more = ap (λ bytes. block_xor bytes pad) (take_more block i 0 within) in
    let split = map-append (λ byte. bit_xor byte pad) (take i block) (get_or block i 0 ∷ []) in
    let set_front = take_more_set new i (bit_xor (get_or block i 0) pad) inside in
    set_front ∙ ap (λ front. front ++ bit_xor (get_or block i 0) pad ∷ []) so_far ∙ sym (more ∙ split)

-- zeros behind a key
pub zeros_behind : (n : ℕ) → drop {A = ℕ} n (replicate 64 0) ≡ replicate (64 - n) 0
zeros_behind n = drop-replicate {X = ℕ} n 64 0

-- what stands behind the first byte
pub tail_of : (end digits : List ℕ) → end ≡ 32 ∷ digits → take (length end - 1) (drop 1 end) ≡ digits
tail_of [] digits e = cc e
tail_of (b ∷ end) digits e =
    let len : length (b ∷ end) - 1 ≡ length end = omega arith in
    rw (len, take-length end) (cc e)
