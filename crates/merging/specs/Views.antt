-- What contracts see of rows and of a merge (this project's own).
use Rattle.std.specs.Prelude.{ℕ, List}
use Rattle.std.specs.Option.{option_copied}
use Rattle.std.specs.Prelude.{map}
use Rattle.std.specs.List.{filter, flat_map}
use Rattle.merging.specs.declared.rule.Rule.{Rule}
use Rattle.merging.specs.declared.side.Side.{Side}
use Rattle.merging.specs.declared.row.Row.{Row}
use Rattle.merging.specs.declared.merging.Picked.{Picked}
use Rattle.merging.specs.declared.merging.Merged.{Merged}
use Rattle.merging.specs.Choices.{Three}
use Rattle.merging.specs.Listings.{Listing}
use Rattle.merging.specs.Merging.{side_at, merged_at, is_conflict_at}
use Rattle.merging.specs.Rows.{line_if, paths_of}

abbrev pub three_of : Row → Three
three_of row = record { base = option_copied row.base; mine = option_copied row.mine; theirs = option_copied row.theirs }

abbrev pub seen : Row → List ℕ × Three
seen row = (row.path.now, three_of row)

-- a line of a merge: the path, the entry, and the side that it is from
abbrev pub picked : Picked → List ℕ × (List ℕ × Side)
picked line = (line.path.now, (line.entry.now, line.side))

abbrev pub lines_of : Merged → List (List ℕ × (List ℕ × Side))
lines_of merge = map picked merge.lines.items

abbrev pub conflicts_of : Merged → List (List ℕ)
conflicts_of merge = map (λ path. path.now) merge.conflicts.items

-- the listing, without the sides
abbrev pub plain : List (List ℕ × (List ℕ × Side)) → Listing
plain lines = map (λ line. (line.0, line.1.0)) lines

module _ (rule : Rule) (base mine theirs : Listing) where
  -- the line of a path after the merge, if an entry stands there
  abbrev pub line_at : List ℕ → List (List ℕ × (List ℕ × Side))
  line_at path = line_if path (side_at rule base mine theirs path) (merged_at rule base mine theirs path)

  -- path by path, what stands after the merge
  abbrev pub merged_lines : List (List ℕ × (List ℕ × Side))
  merged_lines = flat_map line_at (paths_of base mine theirs)

  abbrev pub merged_conflicts : List (List ℕ)
  merged_conflicts = filter (is_conflict_at rule base mine theirs) (paths_of base mine theirs)
