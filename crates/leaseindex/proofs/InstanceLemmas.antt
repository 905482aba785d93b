-- Sets of instances, as bits of words.
use Rattle.std.proofs.Common.{◌≡◌, ◌≢◌, ℕ, zero, suc, ◌+◌, ◌*◌, ◌-◌, ◌/◌, ◌%◌, ◌^◌, ◌<◌, ◌≤◌, max, List, Bool, true, false, not, ◌&&◌, ◌||◌, cond, eqb, eq-eqb, length, get_or, set, refl, sym, ◌∙◌, ap, inl, inr, arith}
use Rattle.std.specs.Prelude.{All, replicate}
use Rattle.std.specs.Int.{bit_at, bit_not, trailing_ones, w64}
use Rattle.std.specs.Int.RustNames.{bit_or}
use lib.Bits.{bit_and}
use Rattle.std.proofs.lemmas.Bool.{cases_eq, cases_lt, ne_eqb, true≢false}
use Rattle.std.proofs.lemmas.List.{get_or-set_same, get_or-set_other, length-set}
use Rattle.std.proofs.lemmas.Nat.Bits.{bit_at-lt, bit_at-zero, same_from_bits_below, bit_at_ones, bit_at_or, bit_at_set_same, bit_at_set_other, bit_at_clear_same, bit_at_clear_other, bit_at-trailing_ones}
use Rattle.std.proofs.Math.ListN.{get_or-eq_default}
use Rattle.leaseindex.specs.Instances.{bit_in}

-- ---- one bit

pub or_cond : (a b : Bool) → cond a true b ≡ (a || b)
or_cond true b = refl
or_cond false b = refl

pub and_cond : (a b : Bool) → cond a false b ≡ (not a && b)
and_cond true b = refl
and_cond false b = refl

-- a word in which the bit of one number is set to this
pub record SetsBit (words : List ℕ) (n w : ℕ) (b : ℕ) : Type 0 where
  pub here : bit_at w (n % 64) ≡ b
  pub others : (j : ℕ) → j < 64 → j ≢ n % 64 → bit_at w j ≡ bit_at (get_or words (n / 64) 0) j

same_bit : (i n : ℕ) → i / 64 ≡ n / 64 → i % 64 ≡ n % 64 → n ≡ i
same_bit i n word bit = omega arith

other_bit : (i n : ℕ) → i / 64 ≢ n / 64 → n ≢ i
other_bit i n word same = word (ap (λ (z : ℕ). z / 64) (sym same))

-- the bits after one word is put in
pub bit_in-set : (words : List ℕ) (n w b i : ℕ) → n / 64 < length words → SetsBit words n w b → bit_in (set words (n / 64) w) i ≡ cond (eqb n i) (eqb b 1) (bit_in words i)
bit_in-set words n w b i inside sets = elim (cases_eq (i / 64) (n / 64)) [
  | inr word ↦
      let other : eqb n i ≡ false = ne_eqb n i (other_bit i n word) in
      ap (λ (v : ℕ). eqb (bit_at v (i % 64)) 1) (get_or-set_other words (n / 64) (i / 64) w 0 word) ∙ ap (λ (z : Bool). cond z (eqb b 1) (bit_in words i)) (sym other)
  | inl word ↦
      let put : get_or (set words (n / 64) w) (i / 64) 0 ≡ w = ap (λ (p : ℕ). get_or (set words (n / 64) w) p 0) word ∙ get_or-set_same words (n / 64) w 0 inside in
      let was : get_or words (i / 64) 0 ≡ get_or words (n / 64) 0 = ap (λ (p : ℕ). get_or words p 0) word in
      elim (cases_eq (i % 64) (n % 64)) [
        | inl bit ↦
            let is : n ≡ i = same_bit i n word bit in
            let one : eqb n i ≡ true = eq-eqb n i is in
            ap (λ (v : ℕ). eqb (bit_at v (i % 64)) 1) put ∙ ap (λ (z : ℕ). eqb (bit_at w z) 1) bit ∙ ap (λ (z : ℕ). eqb z 1) sets.here
            ∙ ap (λ (z : Bool). cond z (eqb b 1) (bit_in words i)) (sym one)
        | inr bit ↦
            let other : eqb n i ≡ false = ne_eqb n i (λ same. bit (ap (λ (z : ℕ). z % 64) (sym same))) in
            ap (λ (v : ℕ). eqb (bit_at v (i % 64)) 1) put ∙ ap (λ (z : ℕ). eqb z 1) (sets.others (i % 64) (omega arith) bit ∙ ap (λ (v : ℕ). bit_at v (i % 64)) (sym was))
            ∙ ap (λ (z : Bool). cond z (eqb b 1) (bit_in words i)) (sym other)
      ]
]

-- the bit of a number is set in its word
pub bit_in-insert : (words : List ℕ) (n i : ℕ) → n / 64 < length words
    → bit_in (set words (n / 64) (bit_or (get_or words (n / 64) 0) (1 * 2 ^ (n % 64) % 2 ^ 64))) i ≡ (eqb n i || bit_in words i)
bit_in-insert words n i inside =
    let within : n % 64 < 64 = omega arith in
    let sets : SetsBit words n (bit_or (get_or words (n / 64) 0) (1 * 2 ^ (n % 64) % 2 ^ 64)) 1 = record {
      here = bit_at_set_same w64 (get_or words (n / 64) 0) (n % 64) within;
      others = λ j below other. bit_at_set_other w64 (get_or words (n / 64) 0) (n % 64) within j other;
    } in
    bit_in-set words n _ 1 i inside sets ∙ or_cond (eqb n i) (bit_in words i)

-- the bit of a number is cleared in its word
pub bit_in-remove : (words : List ℕ) (n i : ℕ) → n / 64 < length words
    → bit_in (set words (n / 64) (bit_and (get_or words (n / 64) 0) (bit_not w64 (1 * 2 ^ (n % 64) % 2 ^ 64)))) i ≡ (not (eqb n i) && bit_in words i)
bit_in-remove words n i inside =
    let within : n % 64 < 64 = omega arith in
    let sets : SetsBit words n (bit_and (get_or words (n / 64) 0) (bit_not w64 (1 * 2 ^ (n % 64) % 2 ^ 64))) 0 = record {
      here = bit_at_clear_same w64 (get_or words (n / 64) 0) (n % 64) within;
      others = λ j below other. bit_at_clear_other w64 (get_or words (n / 64) 0) (n % 64) within j below other;
    } in
    bit_in-set words n _ 0 i inside sets ∙ and_cond (eqb n i) (bit_in words i)

-- ---- no bits, and words that are full

pub zero_at : (n k : ℕ) → get_or (replicate {A = ℕ} n 0) k 0 ≡ 0
zero_at zero k = refl
zero_at (suc n) zero = refl
zero_at (suc n) (suc k) = zero_at n k

-- a word that is 0 has no bit
pub bit_in-zero : (words : List ℕ) (i : ℕ) → get_or words (i / 64) 0 ≡ 0 → bit_in words i ≡ false
bit_in-zero words i is = ap (λ (w : ℕ). eqb (bit_at w (i % 64)) 1) is ∙ ap (λ (b : ℕ). eqb b 1) (bit_at-zero (i % 64))

-- words that are 0 have none
pub bit_in-none : (words : List ℕ) → All (λ w. w ≡ 0) words → (i : ℕ) → bit_in words i ≡ false
bit_in-none words none i = bit_in-zero words i (elim (cases_lt (i / 64) (length words)) [
  | inl inside ↦ none (i / 64) 0 inside
  | inr past ↦ get_or-eq_default words 0 past
])

-- a full word has each of its bits
pub bit_in-full : (words : List ℕ) (i : ℕ) → get_or words (i / 64) 0 ≡ 2 ^ 64 - 1 → bit_in words i ≡ true
bit_in-full words i is = ap (λ (w : ℕ). eqb (bit_at w (i % 64)) 1) is ∙ ap (λ (b : ℕ). eqb b 1) (bit_at_ones 64 (i % 64) (omega arith))

-- ---- the lowest bit that is missing

bit_is : (words : List ℕ) (i k j b : ℕ) → i ≡ 64 * k + j → j < 64 → bit_at (get_or words k 0) j ≡ b → bit_in words i ≡ eqb b 1
bit_is words i k j b is below at =
    let word : i / 64 ≡ k = omega arith in
    let bit : i % 64 ≡ j = omega arith in
    (λ z. eqb (bit_at (get_or words (word z) 0) (bit z)) 1) ∙ ap (λ (n : ℕ). eqb n 1) at

bit_is_zero : (b : ℕ) → b < 2 → eqb b 1 ≡ false → b ≡ 0
bit_is_zero zero below other = refl
bit_is_zero (suc zero) below other = absurd (true≢false other)
bit_is_zero (suc (suc b)) below other = absurd (omega arith)

-- a word of a set without bits is 0
pub zero_word : (words : List ℕ) (k : ℕ) → get_or words k 0 < 2 ^ 64 → ((i : ℕ) → bit_in words i ≡ false) → get_or words k 0 ≡ 0
zero_word words k below none = same_from_bits_below 64 (get_or words k 0) 0 below (omega arith) (λ j inside.
    let bit : ℕ = bit_at (get_or words k 0) j in
    bit_is_zero bit (bit_at-lt (get_or words k 0) j) (sym (bit_is words (64 * k + j) k j bit refl inside refl) ∙ none (64 * k + j)) ∙ sym (bit_at-zero j))

-- the lowest bit that a word lacks
pub bit_in-missing : (words : List ℕ) (k i : ℕ) → get_or words k 0 + 1 < 2 ^ 64 → i ≡ 64 * k + trailing_ones w64 (get_or words k 0) → bit_in words i ≡ false
bit_in-missing words k i lacks is =
    let lowest = bit_at-trailing_ones w64 (get_or words k 0) lacks in
    bit_is words i k (trailing_ones w64 (get_or words k 0)) 0 is lowest.0 lowest.1

-- those below it are there
pub bit_in-below : (words : List ℕ) (k i : ℕ) → get_or words k 0 + 1 < 2 ^ 64 → ((n : ℕ) → n < k → get_or words n 0 ≡ 2 ^ 64 - 1) → i < 64 * k + trailing_ones w64 (get_or words k 0) → bit_in words i ≡ true
bit_in-below words k i lacks full below = elim (cases_lt (i / 64) k) [
  | inl before ↦ bit_in-full words i (full (i / 64) before)
  | inr from ↦
      let lowest = bit_at-trailing_ones w64 (get_or words k 0) lacks in
      let last : trailing_ones w64 (get_or words k 0) < 64 = lowest.0 in
      let is : i ≡ 64 * k + (i - 64 * k) = omega arith in
      bit_is words i k (i - 64 * k) 1 is (omega arith) (lowest.2 (i - 64 * k) (omega arith))
]

-- ---- one set added to another

-- the words before a place have the bits of both sets, the others those of the set to which is added
pub record AddedTo (place : ℕ) (more was words : List ℕ) : Type 0 where
  pub as_many : length words ≡ length was
  pub before : (k : ℕ) → k < place → get_or words k 0 ≡ bit_or (get_or was k 0) (get_or more k 0)
  pub rest : (k : ℕ) → place ≤ k → get_or words k 0 ≡ get_or was k 0

pub added-none : (more was : List ℕ) → AddedTo 0 more was was
added-none more was = record {
  as_many = refl;
  before = λ k lt. absurd (omega arith);
  rest = λ k le. refl;
}

-- the next word
pub added-next : (place : ℕ) (more was words : List ℕ) → place < length words → AddedTo place more was words → AddedTo (place + 1) more was (set words place (bit_or (get_or words place 0) (get_or more place 0)))
added-next place more was words inside h = record {
  as_many = length-set words place (bit_or (get_or words place 0) (get_or more place 0)) ∙ h.as_many;
  before = λ k lt. elim (cases_eq k place) [
    | inl same ↦
        ap (λ (n : ℕ). get_or (set words place (bit_or (get_or words place 0) (get_or more place 0))) n 0) same ∙ get_or-set_same words place (bit_or (get_or words place 0) (get_or more place 0)) 0 inside
        ∙ ap (λ (w : ℕ). bit_or w (get_or more place 0)) (h.rest place (omega arith)) ∙ ap (λ (n : ℕ). bit_or (get_or was n 0) (get_or more n 0)) (sym same)
    | inr other ↦ get_or-set_other words place k (bit_or (get_or words place 0) (get_or more place 0)) 0 other ∙ h.before k (omega arith)
  ];
  rest = λ k le. get_or-set_other words place k (bit_or (get_or words place 0) (get_or more place 0)) 0 (λ same. omega arith) ∙ h.rest k (omega arith);
}

either_is_one : (x y : ℕ) → x < 2 → y < 2 → eqb (max x y) 1 ≡ (eqb y 1 || eqb x 1)
either_is_one zero zero lx ly = refl
either_is_one zero (suc zero) lx ly = refl
either_is_one (suc zero) zero lx ly = refl
either_is_one (suc zero) (suc zero) lx ly = refl
either_is_one (suc (suc x)) y lx ly = absurd (omega arith)
either_is_one zero (suc (suc y)) lx ly = absurd (omega arith)
either_is_one (suc zero) (suc (suc y)) lx ly = absurd (omega arith)

-- a word with the bits of both
pub bit_in-added : (more was words : List ℕ) (i : ℕ) → get_or words (i / 64) 0 ≡ bit_or (get_or was (i / 64) 0) (get_or more (i / 64) 0) → bit_in words i ≡ (bit_in more i || bit_in was i)
bit_in-added more was words i is =
    let a : ℕ = get_or was (i / 64) 0 in
    let b : ℕ = get_or more (i / 64) 0 in
    ap (λ (w : ℕ). eqb (bit_at w (i % 64)) 1) is ∙ ap (λ (n : ℕ). eqb n 1) (bit_at_or a b (i % 64))
    ∙ either_is_one (bit_at a (i % 64)) (bit_at b (i % 64)) (bit_at-lt a (i % 64)) (bit_at-lt b (i % 64))

-- past all words there is no bit
pub bit_in-past : (more was words : List ℕ) (i : ℕ) → length more ≤ i / 64 → length was ≤ i / 64 → length words ≤ i / 64 → bit_in words i ≡ (bit_in more i || bit_in was i)
bit_in-past more was words i no_more no_was none =
    bit_in-zero words i (get_or-eq_default words 0 none)
    ∙ sym (ap (λ (b : Bool). b || bit_in was i) (bit_in-zero more i (get_or-eq_default more 0 no_more)) ∙ bit_in-zero was i (get_or-eq_default was 0 no_was))
