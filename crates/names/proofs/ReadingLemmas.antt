-- Parts of a text, and numbers.
use Rattle.std.proofs.Common.{Bor, ◌≡◌, ◌≢◌, ℕ, zero, suc, ◌<◌, ◌^◌, List, ◌∷◌, ◌++◌, Result, Ok, Err, Option, Some, None, refl, sym, arith}
use Rattle.std.specs.Prelude.{IfSome, IfNone, decimal}
use Rattle.std.specs.Result.{result_ok}
use Rattle.std.specs.Str.Parse.{ParsesUnsigned, AllDigits, digits_value}
use Rattle.std.proofs.lemmas.Str.Parse.{IsNumeralModel, numerals_by_value, tells_digits, parse_plain}
use Rattle.std.proofs.lemmas.Str.Pattern.{IsSplitOnceResult, split_parts}
use Rattle.std.proofs.lemmas.Fmt.{decimal-digits_value, parse-decimal, decimal_nonempty, first_decimal, decimal_digit}
use Rattle.names.specs.Decimals.{Lacks, StartsNumber}

-- what `split_once` gives
pub split_found : (c : ℕ) (bs : List ℕ) (r : Option (Bor (List ℕ) × Bor (List ℕ))) → IsSplitOnceResult c bs r → c < 128
    → IfSome r (λ x. (bs ≡ x.0.now ++ c ∷ x.1.now) × Lacks c x.0.now)
split_found c bs None h low = tt
split_found c bs (Some x) h low = split_parts c bs (Some x) h low

pub split_only : (c : ℕ) (bs : List ℕ) (r : Option (Bor (List ℕ) × Bor (List ℕ))) → IsSplitOnceResult c bs r → c < 128
    → IfNone r (Lacks c bs)
split_only c bs None h low = split_parts c bs None h low
split_only c bs (Some x) h low = tt

-- ---- numbers

own : IsNumeralModel (AllDigits 10) (digits_value 10)
own = numerals_by_value (AllDigits 10) tells_digits

-- a text that starts as a number does is the decimal of the number that is read
pub number_found : {E : Type 0} (bs : List ℕ) (r : Result ℕ E) → ParsesUnsigned 64 10 bs r → StartsNumber bs
    → IfSome (result_ok r) (λ n. bs ≡ decimal n)
number_found {E} bs (Ok x) h starts =
    let p = parse_plain own {E = E} 64 bs (Ok x) h starts.1 in
    rw p.1 (sym (decimal-digits_value own bs p.0.0 p.0.1 starts.2 p.0.2))
number_found bs (Err e) h starts = tt

-- a text that isn't read is not the decimal of a number
pub number_only : {E : Type 0} (bs : List ℕ) (r : Result ℕ E) → ParsesUnsigned 64 10 bs r
    → IfNone (result_ok r) ((n : ℕ) → n < 2 ^ 64 → bs ≢ decimal n)
number_only bs (Ok x) h = tt
number_only {E} bs (Err e) h = λ n lt is.
    let ok = parse-decimal {E = E} 64 n bs (Err e) lt lt is h in
    absurd (cc ok)

-- decimals start as numbers do
pub number_starts : (n : ℕ) → n < 2 ^ 64 → StartsNumber (decimal n)
number_starts zero lt = rw (decimal_digit 0 (omega arith)) (omega arith, λ e. omega arith, λ e. refl)
number_starts (suc n) lt =
    let long = decimal_nonempty (suc n) lt in
    let first = first_decimal (suc n) (omega arith) lt in
    (long, λ e. omega arith, λ e. absurd (omega arith))
