-- Numbers in order of arrival.
use Rattle.std.specs.Prelude.{ℕ, ◌+◌, ◌^◌, List, [], ◌∷◌, nat_lt, if◌then◌else◌}
use Rattle.protocol.specs.Machine.{Parked}

-- the number after this one. The greatest comes again
abbrev pub number_after : ℕ → ℕ
number_after n = if nat_lt (n + 1) (2 ^ 64) then n + 1 else n

-- numbers in turn from this one on, one for each of these asks
abbrev pub numbers_from : ℕ → List Parked → List ℕ
numbers_from n [] = []
numbers_from n (p ∷ ps) = n ∷ numbers_from (number_after n) ps

-- the number after them
abbrev pub number_behind : ℕ → List Parked → ℕ
number_behind n [] = n
number_behind n (p ∷ ps) = number_behind (number_after n) ps
