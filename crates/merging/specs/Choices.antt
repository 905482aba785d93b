-- Which side a path is taken from (this project's own).
use Rattle.std.specs.Prelude.{ℕ, ◌&&◌, ◌||◌, if◌then◌else◌, not, Bool, true, false, List, drop, Some, None}
use Rattle.std.specs.declared.cmp.Ordering.{Ordering}
use Rattle.std.specs.Ordering.{is_lt, nat_cmp, ordering_then}
use Rattle.std.specs.Cmp.Lexicographic.{slice_cmp}
use Rattle.std.specs.Str.{bytes_eq}
use Rattle.merging.specs.declared.rule.Rule.{Rule}
use Rattle.merging.specs.declared.rule.Rule.TheVariants.{Newer, Always}
use Rattle.merging.specs.declared.side.Side.{Side}
use Rattle.merging.specs.declared.side.Side.TheVariants.{Mine, Theirs}
use Rattle.merging.specs.Listings.{Place, is_directory}

-- what stands at a path in the base, in mine and in theirs
pub record Three : Type 0 where
  pub base : Place
  pub mine : Place
  pub theirs : Place

abbrev pub of : Side → Three → Place
of Mine three = three.mine
of Theirs three = three.theirs

abbrev pub other : Side → Side
other Mine = Theirs
other Theirs = Mine

abbrev pub same : Place → Place → Bool
same None None = true
same None (Some y) = false
same (Some x) None = false
same (Some x) (Some y) = bytes_eq x y

-- entries are ordered by the bytes behind their kind, which begin with the time, and then by the kind
abbrev pub entry_cmp : List ℕ → List ℕ → Ordering
entry_cmp x y = ordering_then (slice_cmp nat_cmp (drop 1 x) (drop 1 y)) (slice_cmp nat_cmp x y)

abbrev pub is_newer : List ℕ → List ℕ → Bool
is_newer x y = is_lt (entry_cmp y x)

-- the side of the newer entry, of mine and of theirs; what is there is newer than what was removed
abbrev pub newer : Place → Place → Side
newer None theirs = Theirs
newer (Some x) None = Mine
newer (Some x) (Some y) = if is_newer x y then Mine else Theirs

-- the side that is right where both changed a path, differently
abbrev pub favoured : Rule → Place → Place → Side
favoured Newer mine theirs = newer mine theirs
favoured (Always side) mine theirs = side

-- the side that a path is taken from: theirs where mine changed nothing, mine where theirs changed nothing, and by the rule where both
-- changed it differently
abbrev pub chosen : Rule → Three → Side
chosen rule three =
    if same three.mine three.base then Theirs else
    (if same three.theirs three.base then Mine else
    (if same three.mine three.theirs then Theirs else favoured rule three.mine three.theirs))

-- both sides changed it, differently
abbrev pub is_contested : Three → Bool
is_contested three = not (same three.mine three.base) && (not (same three.theirs three.base) && not (same three.mine three.theirs))

-- a directory that the side drops or replaces stays, as something below it stands
abbrev pub is_kept : Bool → Side → Three → Bool
is_kept below side three = below && (not (is_directory (of side three)) && is_directory (of (other side) three))

abbrev pub settled : Bool → Side → Three → Side
settled below side three = if is_kept below side three then other side else side

abbrev pub is_conflict : Bool → Side → Three → Bool
is_conflict below side three = is_contested three || is_kept below side three
