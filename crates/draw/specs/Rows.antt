-- Where things stand in a list of frames, by rows from 0.
use Rattle.std.specs.Prelude.{ℕ, ◌+◌, if◌then◌else◌, nat_eq, ◌==◌, Bool, List, [], ◌∷◌, Option, Some, None, slice_get, position, unwrap_or}
use Rattle.std.specs.List.{list_any}
use Rattle.draw.specs.declared.sought.Sought.{Sought}
use Rattle.draw.specs.Frames.{Frame, meets}

-- the row of the first of these frames that is looked for, where the first of all has this row; the row behind them if
-- none is
abbrev pub first_row : Sought → ℕ → List Frame → ℕ
first_row sought row [] = row
first_row sought row (f ∷ fs) = if meets sought f then row else first_row sought (row + 1) fs

-- what is printed of the event of a row
abbrev pub words_of : Option Frame → List ℕ
words_of None = []
words_of (Some f) = f.words

abbrev pub words_at : List Frame → ℕ → List ℕ
words_at frames row = words_of (slice_get frames row)

-- the column of a lifeline among those that are drawn
abbrev pub place_of : List ℕ → ℕ → Option ℕ
place_of lines line = position (λ l. l == line) lines

abbrev pub column_of : List ℕ → ℕ → ℕ
column_of lines line = unwrap_or (place_of lines line) 0

abbrev pub has_line : List ℕ → ℕ → Bool
has_line lines line = list_any (λ l. nat_eq l line) lines
