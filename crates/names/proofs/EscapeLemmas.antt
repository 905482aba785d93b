-- The spelling of one byte, and of an id.
use Rattle.std.proofs.Common.{◌≡◌, ◌≢◌, ℕ, ◌+◌, ◌*◌, ◌/◌, ◌%◌, ◌<◌, ◌≤◌, true, false, List, [], ◌∷◌, ◌++◌, get_or, inl, inr, refl, sym, ap, ◌∙◌, arith}
use Rattle.std.proofs.lemmas.Bool.{cases_Bool}
use Rattle.std.proofs.lemmas.Bool.Decides.{nat_tests}
use Rattle.names.specs.Escapes.{stands, upper_digit, escaped}

pub record IsPlain (b : ℕ) : Type 0 where
  pub low : 33 ≤ b
  pub high : b ≤ 126
  pub no_hash : b ≢ 35
  pub no_percent : b ≢ 37
  pub no_at : b ≢ 64

-- the bytes that are written without an escape
pub stands-parts : (b : ℕ) → stands b ≡ true → IsPlain b
unfolding stands
stands-parts b h = record {
  low = grind (arith, nat_tests);
  high = grind (arith, nat_tests);
  no_hash = λ e. grind (arith, nat_tests);
  no_percent = λ e. grind (arith, nat_tests);
  no_at = λ e. grind (arith, nat_tests);
}

pub escaped_plain : (b : ℕ) → stands b ≡ true → escaped b ≡ b ∷ []
unfolding escaped
escaped_plain b h = rw h refl

pub escaped_other : (b : ℕ) → stands b ≡ false → escaped b ≡ 37 ∷ upper_digit (b / 16) ∷ upper_digit (b % 16) ∷ []
unfolding escaped
escaped_other b h = rw h refl

-- different digits are spelled differently
pub upper_digit-injective : (m n : ℕ) → m < 16 → n < 16 → upper_digit m ≡ upper_digit n → m ≡ n
unfolding upper_digit
upper_digit-injective m n lm ln e = grind (arith, nat_tests)

-- a digit is `0` to `9` or `A` to `F`
pub upper_digit-range : (n : ℕ) → n < 16 → (48 ≤ upper_digit n) × (upper_digit n ≤ 70) × (upper_digit n ≢ 64)
unfolding upper_digit
upper_digit-range n ln = (grind (arith, nat_tests), grind (arith, nat_tests), λ e. grind (arith, nat_tests))

-- ---- reading one byte

-- a byte whose spelling starts a text that starts with `%`
pub starts_percent : (text rest : List ℕ) (b : ℕ) → text ≡ escaped b ++ rest → get_or text 0 0 ≡ 37
    → (stands b ≡ false) × (text ≡ 37 ∷ upper_digit (b / 16) ∷ upper_digit (b % 16) ∷ rest)
starts_percent text rest b e percent =
    elim (cases_Bool (stands b)) [
      | inl plain ↦
          let first : get_or text 0 0 ≡ b = ap (λ t. get_or t 0 0) (e ∙ ap (λ t. t ++ rest) (escaped_plain b plain)) in
          absurd ((stands-parts b plain).no_percent (sym first ∙ percent))
      | inr other ↦ (other, e ∙ ap (λ t. t ++ rest) (escaped_other b other))
    ]

pub no_high_digit : (text rest : List ℕ) (b : ℕ) → get_or text 0 0 ≡ 37
    → ((value : ℕ) → value < 16 → get_or text 1 0 ≢ upper_digit value) → b < 256 → text ≡ escaped b ++ rest → ⊥
no_high_digit text rest b percent none lt e =
    let is = (starts_percent text rest b e percent).1 in
    none (b / 16) (omega arith) (ap (λ t. get_or t 1 0) is)

pub no_low_digit : (text rest : List ℕ) (b : ℕ) → get_or text 0 0 ≡ 37
    → ((value : ℕ) → value < 16 → get_or text 2 0 ≢ upper_digit value) → b < 256 → text ≡ escaped b ++ rest → ⊥
no_low_digit text rest b percent none lt e =
    let is = (starts_percent text rest b e percent).1 in
    none (b % 16) (omega arith) (ap (λ t. get_or t 2 0) is)

-- `%` and two digits never spell a byte that is written without an escape
pub no_escape : (text rest : List ℕ) (b high low : ℕ) → get_or text 0 0 ≡ 37 → high < 16 → low < 16
    → get_or text 1 0 ≡ upper_digit high → get_or text 2 0 ≡ upper_digit low → stands (16 * high + low) ≡ true
    → b < 256 → text ≡ escaped b ++ rest → ⊥
no_escape text rest b high low percent lh ll eh el plain lt e =
    let is = starts_percent text rest b e percent in
    let h : high ≡ b / 16 = upper_digit-injective _ _ lh (omega arith) (sym eh ∙ ap (λ t. get_or t 1 0) is.1) in
    let l : low ≡ b % 16 = upper_digit-injective _ _ ll (omega arith) (sym el ∙ ap (λ t. get_or t 2 0) is.1) in
    let same : 16 * high + low ≡ b = omega arith in
    let both : stands (16 * high + low) ≡ false = ap stands same ∙ is.0 in
    cc (plain, both)
