-- What a buffer of lines has read of the line that hasn't ended (this project's own).
use Rattle.std.specs.Prelude.{◌≡◌, ℕ, ◌<◌, ◌≤◌, List, length, Option, None, Some, Result, Ok, Err}
use Rattle.services.specs.declared.lost.Lost.{Lost}
use Rattle.services.specs.declared.lost.Lost.TheVariants.{TooLong, OutOfMemory}

-- a buffer, as contracts see it: how many bytes a line has at most with its end, and the bytes since the last LF, or
-- why they weren't kept
pub record BufferParts : Type 0 where
  pub limit : ℕ
  pub kept : Result (List ℕ) Lost

-- the bytes, or why they aren't kept
abbrev pub kept_of : List ℕ → Option Lost → Result (List ℕ) Lost
kept_of bytes None = Ok bytes
kept_of bytes (Some lost) = Err lost

-- what is kept of these bytes: all of them, if an end still fits behind them; memory may have run out instead
abbrev pub IsKept : ℕ → List ℕ → Result (List ℕ) Lost → Type 0
IsKept limit bytes (Ok kept) = (length bytes < limit) × (kept ≡ bytes)
IsKept limit bytes (Err TooLong) = limit ≤ length bytes
IsKept limit bytes (Err OutOfMemory) = Unit {0}

-- since the last LF the buffer has read this
abbrev pub HasRead : BufferParts → List ℕ → Type 0
HasRead buffer bytes = IsKept buffer.limit bytes buffer.kept
