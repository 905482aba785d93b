-- The three listings side by side, as one pass over them reads them (this project's own).
use Rattle.std.specs.Prelude.{ℕ, zero, suc, ◌+◌, if◌then◌else◌, ◌++◌, Bool, false, List, [], ◌∷◌, length, Option, Some, None}
use Rattle.std.specs.Map.{keys_of}
use Rattle.std.specs.Ordering.{is_lt}
use Rattle.std.specs.Str.{bytes_eq}
use Rattle.merging.specs.declared.rule.Rule.{Rule}
use Rattle.merging.specs.declared.side.Side.{Side}
use Rattle.merging.specs.Choices.{Three, of, chosen, settled, is_conflict}
use Rattle.merging.specs.Listings.{Listing, Place, path_cmp, stands, is_below}

-- a path, and what stands there in the three
abbrev pub Side_by_side : Type 0
Side_by_side = List (List ℕ × Three)

abbrev pub first_path : Listing → Option (List ℕ)
first_path [] = None
first_path (line ∷ lines) = Some line.0

-- the lesser path of two, if there are two
abbrev pub lesser : Option (List ℕ) → Option (List ℕ) → Option (List ℕ)
lesser None other = other
lesser (Some one) None = Some one
lesser (Some one) (Some other) = if is_lt (path_cmp other one) then Some other else Some one

-- the entry of the first line, if it is at the path
abbrev pub first_entry : List ℕ → Listing → Place
first_entry path [] = None
first_entry path (line ∷ lines) = if bytes_eq line.0 path then Some line.1 else None

-- the lines without the first, if it is at the path
abbrev pub behind : List ℕ → Listing → Listing
behind path [] = []
behind path (line ∷ lines) = if bytes_eq line.0 path then lines else (line ∷ lines)

abbrev pub least_path : Listing → Listing → Listing → Option (List ℕ)
least_path base mine theirs = lesser (lesser (first_path base) (first_path mine)) (first_path theirs)

abbrev pub row_at : List ℕ → Listing → Listing → Listing → List ℕ × Three
row_at path base mine theirs = (path, record { base = first_entry path base; mine = first_entry path mine; theirs = first_entry path theirs })

-- the row of the path, if there is one, and what comes behind it
abbrev pub rows_from : Option (List ℕ) → (List ℕ → List ℕ × Three) → (List ℕ → Side_by_side) → Side_by_side
rows_from None row others = []
rows_from (Some path) row others = row path ∷ others path

-- the first rows, up to a number of them: each time the least path that is left
unfoldable pub rows_in : ℕ → Listing → Listing → Listing → Side_by_side
rows_in zero base mine theirs = []
rows_in (suc limit) base mine theirs = rows_from (least_path base mine theirs) (λ path. row_at path base mine theirs)
    (λ path. rows_in limit (behind path base) (behind path mine) (behind path theirs))

unfoldable pub rows_of : Listing → Listing → Listing → Side_by_side
rows_of base mine theirs = rows_in (length base + length mine + length theirs) base mine theirs

-- the paths of the three listings
abbrev pub paths_of : Listing → Listing → Listing → List (List ℕ)
paths_of base mine theirs = keys_of (rows_of base mine theirs)

-- ---- rows read from the last to the first: what comes behind a row is known

abbrev pub has_below : List ℕ → Option (List ℕ) → Bool
has_below dir None = false
has_below dir (Some path) = is_below dir path

-- a line at the path, if an entry stands there
abbrev pub line_if : List ℕ → Side → Place → List (List ℕ × (List ℕ × Side))
line_if path side None = []
line_if path side (Some entry) = (path, (entry, side)) ∷ []

module _ (rule : Rule) where
  abbrev pub next_with : List ℕ × Three → Option (List ℕ) → Option (List ℕ)
  next_with row next = if stands (of (chosen rule row.1) row.1) then Some row.0 else next

  -- the first path of which an entry is taken
  abbrev pub next_taken : Side_by_side → Option (List ℕ)
  next_taken [] = None
  next_taken (row ∷ rows) = next_with row (next_taken rows)

  abbrev pub row_side : Option (List ℕ) → List ℕ × Three → Side
  row_side next row = settled (has_below row.0 next) (chosen rule row.1) row.1

  abbrev pub row_lines : Option (List ℕ) → List ℕ × Three → List (List ℕ × (List ℕ × Side))
  row_lines next row = line_if row.0 (row_side next row) (of (row_side next row) row.1)

  abbrev pub row_conflicts : Option (List ℕ) → List ℕ × Three → List (List ℕ)
  row_conflicts next row = if is_conflict (has_below row.0 next) (chosen rule row.1) row.1 then (row.0 ∷ []) else []

  abbrev pub lines_in : Side_by_side → List (List ℕ × (List ℕ × Side))
  lines_in [] = []
  lines_in (row ∷ rows) = row_lines (next_taken rows) row ++ lines_in rows

  abbrev pub conflicts_in : Side_by_side → List (List ℕ)
  conflicts_in [] = []
  conflicts_in (row ∷ rows) = row_conflicts (next_taken rows) row ++ conflicts_in rows
