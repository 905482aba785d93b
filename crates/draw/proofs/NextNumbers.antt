-- Numbers that follow one another.
use Rattle.std.specs.List.{range_with_len}
use Rattle.std.proofs.Common.{◌≡◌, ℕ, suc, ◌+◌, ◌-◌, ◌<◌, ◌∷◌, ap, arith}

-- the numbers above a place, up to an end, are the next one and those above that
pub next_range : (place end : ℕ) → place < end → range_with_len (place + 1) (end - place) ≡ (place + 1) ∷ range_with_len (place + 1 + 1) (end - (place + 1))
next_range place end h = let left : end - place ≡ suc (end - (place + 1)) = omega arith in ap (range_with_len (place + 1)) left
