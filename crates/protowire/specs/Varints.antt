-- Numbers of the wire.
use Rattle.std.specs.Prelude.{◌≡◌, ℕ, ◌+◌, ◌*◌, ◌%◌, ◌<◌, ◌≤◌, ◌^◌, List, [], ◌∷◌, length}

-- the low seven bits of each byte, least group first (proto3 encoding)
abbrev pub number_of : List ℕ → ℕ
number_of [] = 0
number_of (b ∷ bs) = b % 128 + 128 * number_of bs

-- a byte with its top bit set has another after it, and the last one hasn't (proto3 encoding)
abbrev pub AreGroups : List ℕ → Type 0
AreGroups [] = ⊥
AreGroups (b ∷ []) = b < 128
AreGroups (b ∷ c ∷ bs) = (128 ≤ b) × AreGroups (c ∷ bs)

-- a spelling of a number in at most ten bytes, not always the shortest one (proto3 encoding);
-- no number of 2^64 or more has one (this project's own: some decoders drop the bits past 64)
pub record IsVarint (text : List ℕ) (n : ℕ) : Type 0 where
  pub groups : AreGroups text
  pub short : length text ≤ 10
  pub value : n ≡ number_of text
  pub fits : n < 2 ^ 64
