-- How a merge is told: a line for each of its lines, and then one for each conflict (this project's own).
use Rattle.std.specs.Prelude.{ℕ, List, [], ◌∷◌, ◌++◌, codes}
use Rattle.std.specs.List.{flat_map}
use Rattle.merging.specs.declared.rule.Rule.{Rule}
use Rattle.merging.specs.declared.side.Side.{Side}
use Rattle.merging.specs.declared.side.Side.TheVariants.{Mine, Theirs}
use Rattle.merging.specs.Listings.{Listing}
use Rattle.merging.specs.Texts.{path_text, line_text}
use Rattle.merging.specs.Views.{merged_lines, merged_conflicts}

abbrev pub side_word : Side → List ℕ
side_word Mine = codes "mine "
side_word Theirs = codes "theirs "

-- SIDE PATH ENTRY
abbrev pub picked_text : List ℕ × (List ℕ × Side) → List ℕ
picked_text line = side_word line.1.1 ++ line_text (line.0, line.1.0)

abbrev pub conflict_text : List ℕ → List ℕ
conflict_text path = codes "conflict " ++ path_text path ++ 10 ∷ []

abbrev pub answer_text : List (List ℕ × (List ℕ × Side)) → List (List ℕ) → List ℕ
answer_text lines conflicts = flat_map picked_text lines ++ flat_map conflict_text conflicts

abbrev pub merged_text : Rule → Listing → Listing → Listing → List ℕ
merged_text rule base mine theirs = answer_text (merged_lines rule base mine theirs) (merged_conflicts rule base mine theirs)
