-- The lines of what is read, each of at most a limit with its end (this project's own).
use Rattle.std.specs.Prelude.{◌≡◌, ℕ, ◌==◌, if◌then◌else◌, List, [], ◌∷◌, ◌++◌, Option, Some, None, Result}
use Rattle.services.specs.declared.lost.Lost.{Lost}
use Rattle.services.specs.Buffers.{BufferParts, HasRead, IsKept}

-- the whole lines of a text, without their ends, where these bytes stand before it; what stands behind the last LF is
-- none
abbrev pub lines_behind : List ℕ → List ℕ → List (List ℕ)
lines_behind front [] = []
lines_behind front (b ∷ text) = if b == 10 then front ∷ lines_behind [] text else lines_behind (front ++ b ∷ []) text

-- an LF ends the line, and the next one begins
pub record Ends (limit : ℕ) (front : List ℕ) (line : Option (Result (List ℕ) Lost)) (new : BufferParts) : Type 0 where
  pub ended : Result (List ℕ) Lost
  pub is : IsKept limit front ended
  pub line_is : line ≡ Some ended
  pub empty : HasRead new []

-- another byte is of the line
pub record Grows (front : List ℕ) (byte : ℕ) (line : Option (Result (List ℕ) Lost)) (new : BufferParts) : Type 0 where
  pub line_is : line ≡ None
  pub longer : HasRead new (front ++ byte ∷ [])
