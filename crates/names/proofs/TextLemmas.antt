-- Parts of a text: which bytes they lack, and that they are determined.
use Rattle.std.proofs.Common.{◌≡◌, ◌≢◌, ℕ, zero, suc, ◌/◌, ◌%◌, ◌<◌, ◌^◌, Bool, true, ◌&&◌, eqb, List, [], ◌∷◌, ◌++◌, get_or, None, refl, sym, ap, ◌∙◌, arith}
use Rattle.std.specs.Prelude.{decimal, not}
use Rattle.std.proofs.lemmas.Bool.{and_parts}
use Rattle.std.proofs.lemmas.Bool.Decides.{nat_tests}
use Rattle.std.proofs.lemmas.Str.Parse.{digit_at, IsNumeralModel, numerals_by_value, tells_digits}
use Rattle.std.proofs.lemmas.Fmt.{digits_decimal}
use Rattle.std.specs.Str.Parse.{AllDigits, digits_value}
use Rattle.hex.specs.Hex.{IsBytes, encode_lower, encode_with, lower_digits, hex_digit_value, decode_of}
use Rattle.hex.proofs.HexLemmas.{IsDigits-lower_digits, decode_of-encode_lower, decode_of-same}
use Rattle.names.specs.Decimals.{Lacks}

-- ---- what a text lacks

pub Lacks-nil : (c : ℕ) → Lacks c []
Lacks-nil c i lt = absurd (omega arith)

pub Lacks-cons : (c x : ℕ) (xs : List ℕ) → x ≢ c → Lacks c xs → Lacks c (x ∷ xs)
Lacks-cons c x xs h l zero lt = h
Lacks-cons c x xs h l (suc i) lt = l i (omega arith)

pub Lacks-head : (c x : ℕ) (xs : List ℕ) → Lacks c (x ∷ xs) → x ≢ c
Lacks-head c x xs l = l 0 (omega arith)

pub Lacks-tail : (c x : ℕ) (xs : List ℕ) → Lacks c (x ∷ xs) → Lacks c xs
Lacks-tail c x xs l i lt = l (suc i) (omega arith)

pub Lacks-append : (c : ℕ) (xs ys : List ℕ) → Lacks c xs → Lacks c ys → Lacks c (xs ++ ys)
Lacks-append c [] ys lx ly = ly
Lacks-append c (x ∷ xs) ys lx ly = Lacks-cons c x (xs ++ ys) (Lacks-head c x xs lx) (Lacks-append c xs ys (Lacks-tail c x xs lx) ly)

-- a text with a byte in the middle doesn't lack it
pub Lacks-middle : (c : ℕ) (xs ys : List ℕ) → Lacks c (xs ++ c ∷ ys) → ⊥
Lacks-middle c [] ys l = Lacks-head c c ys l refl
Lacks-middle c (x ∷ xs) ys l = Lacks-middle c xs ys (Lacks-tail c x (xs ++ c ∷ ys) l)

-- equal lists have equal heads and tails
pub heads : (x y : ℕ) (xs ys : List ℕ) → (x ∷ xs) ≡ (y ∷ ys) → (x ≡ y) × (xs ≡ ys)
heads x y xs ys e = (cc e, cc e)

-- the parts around the first of these bytes
pub split_same : (c : ℕ) (a b x y : List ℕ) → a ++ c ∷ x ≡ b ++ c ∷ y → Lacks c a → Lacks c b → (a ≡ b) × (x ≡ y)
split_same c [] [] x y e la lb = (refl, (heads c c x y e).1)
split_same c [] (w ∷ b) x y e la lb = absurd (Lacks-head c w b lb (sym (heads c w x (b ++ c ∷ y) e).0))
split_same c (v ∷ a) [] x y e la lb = absurd (Lacks-head c v a la (heads v c (a ++ c ∷ x) y e).0)
split_same c (v ∷ a) (w ∷ b) x y e la lb =
    let h = heads v w (a ++ c ∷ x) (b ++ c ∷ y) e in
    let rest = split_same c a b x y h.1 (Lacks-tail c v a la) (Lacks-tail c w b lb) in
    (cc (h.0, rest.0), rest.1)

-- ---- a test that computes

-- a test of a text for a byte, which computes
abbrev pub none_of : ℕ → List ℕ → Bool
none_of c [] = true
none_of c (x ∷ xs) = not (eqb x c) && none_of c xs

pub Lacks-from_test : (c : ℕ) (xs : List ℕ) → none_of c xs ≡ true → Lacks c xs
Lacks-from_test c [] h = Lacks-nil c
Lacks-from_test c (x ∷ xs) h =
    let parts = and_parts (not (eqb x c)) (none_of c xs) h in
    let differ : x ≢ c = λ e. (let p = parts.0 in grind (arith, nat_tests)) in
    Lacks-cons c x xs differ (Lacks-from_test c xs parts.1)

-- ---- bytes and digits

pub IsBytes-nil : IsBytes []
IsBytes-nil i = omega arith

pub IsBytes-push : (xs : List ℕ) (b : ℕ) → IsBytes xs → b < 256 → IsBytes (xs ++ b ∷ [])
IsBytes-push [] b h lt zero = lt
IsBytes-push [] b h lt (suc i) = omega arith
IsBytes-push (x ∷ xs) b h lt zero = h 0
IsBytes-push (x ∷ xs) b h lt (suc i) = IsBytes-push xs b (λ j. h (suc j)) lt i

-- a byte that isn't a digit does not occur in the digits of bytes
pub encode-lacks : (c : ℕ) → hex_digit_value c ≡ None → (xs : List ℕ) → IsBytes xs → Lacks c (encode_lower xs)
unfolding encode_with
encode-lacks c no_digit [] h = Lacks-nil c
encode-lacks c no_digit (x ∷ xs) h =
    let fits : x < 256 = h 0 in
    let high : get_or lower_digits (x / 16) 0 ≢ c = λ e. (let d = IsDigits-lower_digits (x / 16) (omega arith) in cc (d, no_digit)) in
    let low : get_or lower_digits (x % 16) 0 ≢ c = λ e. (let d = IsDigits-lower_digits (x % 16) (omega arith) in cc (d, no_digit)) in
    let rest = encode-lacks c no_digit xs (λ i. h (suc i)) in
    Lacks-cons c (get_or lower_digits (x / 16) 0) (get_or lower_digits (x % 16) 0 ∷ encode_lower xs) high (Lacks-cons c (get_or lower_digits (x % 16) 0) (encode_lower xs) low rest)

own : IsNumeralModel (AllDigits 10) (digits_value 10)
own = numerals_by_value (AllDigits 10) tells_digits

-- a decimal consists of digits
pub decimal-lacks : (c n : ℕ) → n < 2 ^ 64 → c < 48 → Lacks c (decimal n)
decimal-lacks c n lt low i inside =
    let range = digit_at (decimal n) i (digits_decimal own n lt) inside in
    λ e. omega arith

-- different bytes have different digits
pub encode-injective : (xs ys : List ℕ) → IsBytes xs → IsBytes ys → encode_lower xs ≡ encode_lower ys → xs ≡ ys
encode-injective xs ys hx hy e =
    decode_of-same (encode_lower xs) xs ys (decode_of-encode_lower xs hx) (ap decode_of e ∙ decode_of-encode_lower ys hy)
