-- Failures in a row that are too many (the rule is this project's own).
use Rattle.std.specs.Prelude.{⊤, ℕ, nat_le, if◌then◌else◌}
use Rattle.farmboard.specs.BoardRefusal.{BoardRefusal}
use Rattle.farmboard.specs.BoardRefusal.TheVariants as board

-- from the eighth failure in a row on there are too many
abbrev pub ENOUGH : ℕ
ENOUGH = 8

-- they are counted up to that and no further
abbrev pub counted : ℕ → ℕ
counted n = if nat_le n ENOUGH then n else ENOUGH

-- a restart that ends so has failed: the farm refused it, or memory ran out for it
abbrev pub IsFailedRestart : BoardRefusal → Type 0
IsFailedRestart (board.Event refusal) = ⊤
IsFailedRestart board.OutOfMemory = ⊤
IsFailedRestart board.HistoryFull = ⊥
IsFailedRestart board.TokenOut = ⊥
