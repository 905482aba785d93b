-- How an entry's time is spelled, so that the order of its bytes is that of times (this project's own).
use Rattle.std.specs.Prelude.{ℕ, zero, suc, ◌+◌, ◌/◌, ◌%◌, List, [], ◌∷◌, ◌++◌}

-- the last decimal digits of a number, as many as are asked for
unfoldable pub in_digits : ℕ → ℕ → List ℕ
in_digits zero number = []
in_digits (suc count) number = in_digits count (number / 10) ++ (48 + number % 10) ∷ []

-- nanoseconds since 1970
unfoldable pub time_text : ℕ → List ℕ
time_text time = in_digits 20 time
