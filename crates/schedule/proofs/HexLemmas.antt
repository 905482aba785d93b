-- Hexadecimal digits without upper-case letters.
use Rattle.std.proofs.Common.{◌≡◌, ℕ, zero, suc, ◌+◌, ◌*◌, ◌/◌, ◌%◌, ◌<◌, ◌==◌, Bool, true, false, ◌&&◌, ◌⊎◌, inl, inr, List, [], ◌∷◌, length, slice_index, Option, Some, None, Result, Ok, Err, refl, sym, ap, ◌∙◌, arith}
use Rattle.std.specs.Prelude.{if◌then◌else◌, nat_lt}
use Rattle.std.specs.List.{list_any}
use Rattle.std.specs.Char.{is_ascii_uppercase}
use Rattle.std.proofs.lemmas.Bool.{and_parts, cases_lt, eqb-true, cases_eq, or_parts}
use Rattle.std.proofs.lemmas.Bool.Decides.{nat_tests}
use Rattle.hex.specs.Hex.{IsBytes, decode_of, decode_pairs, digit_or_error, hex_digit_value, encode_lower, encode_with, lower_digits, pair_value, value_at, ◌>>=◌}
use Rattle.hex.specs.declared.error.FromHexError.{FromHexError}
use Rattle.hex.specs.declared.error.FromHexError.TheVariants.{OutOfMemory}
use Rattle.hex.proofs.HexLemmas.{decode_of-even, decode_of-odd, decode_of-encode_lower}
use Rattle.words.specs.Refusals.{hex_refusal}
use Rattle.words.specs.declared.refusal.ReadRefusal.TheVariants.{BadForm}

-- ---- the table

-- a digit, without the table
abbrev digit_of : ℕ → ℕ
digit_of d = if nat_lt d 10 then 48 + d else 87 + d

abbrev all_digits : ℕ → Bool
all_digits zero = true
all_digits (suc n) = (slice_index lower_digits n == digit_of n) && all_digits n

digits_below : (n k : ℕ) → all_digits n ≡ true → k < n → slice_index lower_digits k ≡ digit_of k
digits_below zero k h lt = absurd (omega arith)
digits_below (suc n) k h lt =
    let parts = and_parts (slice_index lower_digits n == digit_of n) (all_digits n) h in
    elim (cases_lt k n) [
      | inl below ↦ digits_below n k parts.1 below
      | inr top ↦ let e : k ≡ n = omega arith in rw e (eqb-true _ _ parts.0)
    ]

digit_is : (d : ℕ) → d < 16 → slice_index lower_digits d ≡ digit_of d
digit_is d lt = digits_below 16 d refl lt

digit-not_upper : (d : ℕ) → d < 16 → is_ascii_uppercase (slice_index lower_digits d) ≡ false
digit-not_upper d lt = rw (digit_is d lt) (grind (arith, nat_tests))

-- a digit that isn't an upper-case letter is the one that its value is written as
digit_back : (c v : ℕ) → hex_digit_value c ≡ Some v → is_ascii_uppercase c ≡ false → (v < 16) × (c ≡ slice_index lower_digits v)
digit_back c v h low =
    let small : v < 16 = grind (arith, nat_tests) in
    let is : c ≡ digit_of v = grind (arith, nat_tests) in
    (small, is ∙ sym (digit_is v small))

-- ---- texts

-- what an `Ok` after `>>=` shows
bind_ok : {A B : Type 0} (r : Result A FromHexError) (f : A → Result B FromHexError) (y : B)
    → (r >>= f) ≡ Ok y → (x : A) × (r ≡ Ok x) × (f x ≡ Ok y)
bind_ok (Ok x) f y h = (x, refl, h)
bind_ok (Err e) f y h = cc h

-- the value of a digit that was read
digit_read : (c i : ℕ) (o : Option ℕ) (v : ℕ) → digit_or_error c i o ≡ Ok v → o ≡ Some v
digit_read c i (Some w) v h = cc h
digit_read c i None v h = cc h

-- digits without upper-case letters are those of the bytes that they decode to
lower_pairs : (i : ℕ) (s bytes : List ℕ) → decode_pairs i s ≡ Ok bytes → list_any is_ascii_uppercase s ≡ false → s ≡ encode_lower bytes
unfolding decode_pairs encode_with
lower_pairs i [] bytes h low = let e : [] ≡ bytes = cc h in ap encode_lower e
lower_pairs i (a ∷ []) bytes h low = cc h
lower_pairs i (a ∷ b ∷ rest) bytes h low =
    let p0 = bind_ok (pair_value a b i) _ bytes h in
    let p1 = bind_ok (value_at a i) _ p0.0 p0.1 in
    let p2 = bind_ok (value_at b (i + 1)) _ p0.0 p1.2 in
    let p3 = bind_ok (decode_pairs (i + 2) rest) _ bytes p0.2 in
    let lows = or_parts (is_ascii_uppercase a) (list_any is_ascii_uppercase (b ∷ rest)) low in
    let lows' = or_parts (is_ascii_uppercase b) (list_any is_ascii_uppercase rest) lows.1 in
    let da = digit_back a p1.0 (digit_read a i (hex_digit_value a) p1.0 p1.1) lows.0 in
    let db = digit_back b p2.0 (digit_read b (i + 1) (hex_digit_value b) p2.0 p2.1) lows'.0 in
    let byte : p1.0 * 16 + p2.0 ≡ p0.0 = cc p2.2 in
    let others = lower_pairs (i + 2) rest p3.0 p3.1 lows'.1 in
    let e : p0.0 ∷ p3.0 ≡ bytes = cc p3.2 in
    let high : p0.0 / 16 ≡ p1.0 = omega arith in
    let last : p0.0 % 16 ≡ p2.0 = omega arith in
    let x : a ≡ slice_index lower_digits (p0.0 / 16) = rw high da.1 in
    let y : b ≡ slice_index lower_digits (p0.0 % 16) = rw last db.1 in
    let whole : a ∷ b ∷ rest ≡ encode_lower (p0.0 ∷ p3.0) = cc (x, y, others) in
    whole ∙ ap encode_lower e

-- a text without upper-case letters that decodes is the digits of its bytes
pub lower_spelled : (s bytes : List ℕ) → decode_of s ≡ Ok bytes → list_any is_ascii_uppercase s ≡ false → s ≡ encode_lower bytes
lower_spelled s bytes h low =
    elim (cases_eq (length s % 2) 1) [
      | inl odd ↦ cc (sym h ∙ decode_of-odd s odd)
      | inr even ↦ lower_pairs 0 s bytes (sym (decode_of-even s (omega arith)) ∙ h) low
    ]

-- the digits of bytes have no upper-case letters
pub lower_no_upper : (bytes : List ℕ) → IsBytes bytes → list_any is_ascii_uppercase (encode_lower bytes) ≡ false
unfolding encode_with
lower_no_upper [] h = refl
lower_no_upper (b ∷ bytes) h =
    let fits : b < 256 = h 0 in
    let x = digit-not_upper (b / 16) (omega arith) in
    let y = digit-not_upper (b % 16) (omega arith) in
    let rest = lower_no_upper bytes (λ i. h (suc i)) in
    rw (x, y) rest

-- a text that isn't read, although memory didn't run out, is not the digits of bytes
pub unread : (s bytes : List ℕ) (d : FromHexError) → (d ≡ OutOfMemory) ⊎ (decode_of s ≡ Err d) → hex_refusal d ≡ BadForm
    → IsBytes bytes → s ≡ encode_lower bytes → ⊥
unread s bytes d (inl memory) bad h e = cc (ap hex_refusal memory, bad)
unread s bytes d (inr fault) bad h e = cc (fault, ap decode_of e, decode_of-encode_lower bytes h)
