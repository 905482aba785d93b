-- Listings of a folder: what stands at each path (this project's own).
use Rattle.std.specs.Prelude.{◌≡◌, ℕ, ◌==◌, ◌&&◌, Bool, true, false, List, [], ◌∷◌, Option, Some, None, is_some}
use Rattle.std.specs.declared.cmp.Ordering.{Ordering}
use Rattle.std.specs.Ordering.{is_lt, nat_cmp}
use Rattle.std.specs.Cmp.Lexicographic.{slice_cmp}
use Rattle.std.specs.BTreeMap.{is_at}
use Rattle.std.specs.List.Sorted.{IsStrictlySortedBy}
use Rattle.std.specs.Map.{keys_of, lookup}

-- a path, its names parted by the byte 0, and the entry there
abbrev pub Listing : Type 0
Listing = List (List ℕ × List ℕ)

-- paths are ordered by their bytes; as 0 is the least byte, what is below a directory comes right behind it
abbrev pub path_cmp : List ℕ → List ℕ → Ordering
path_cmp = slice_cmp nat_cmp

-- an entry, or none
abbrev pub Place : Type 0
Place = Option (List ℕ)

abbrev pub entry_at : Listing → List ℕ → Place
entry_at listing path = lookup (is_at (path_cmp path)) listing

-- the paths rise strictly
abbrev pub IsListing : Listing → Type 0
IsListing listing = IsStrictlySortedBy path_cmp (keys_of listing)

abbrev pub stands : Place → Bool
stands place = is_some place

-- the entry of a directory begins with d
abbrev pub is_directory : Place → Bool
is_directory None = false
is_directory (Some []) = false
is_directory (Some (kind ∷ others)) = kind == 100

-- the path begins with the directory's and the byte 0
abbrev pub is_below : List ℕ → List ℕ → Bool
is_below [] [] = false
is_below [] (b ∷ path) = b == 0
is_below (a ∷ dir) [] = false
is_below (a ∷ dir) (b ∷ path) = (b == a) && is_below dir path

-- above each path that stands there are only directories
abbrev pub IsTree : (List ℕ → Place) → Type 0
IsTree at = (dir path : List ℕ) → is_below dir path ≡ true → stands (at path) ≡ true → is_directory (at dir) ≡ true

-- whether a path is above the one before it, if there is one
abbrev pub is_above : Option (List ℕ) → List ℕ → Bool
is_above None path = true
is_above (Some last) path = is_lt (path_cmp last path)

-- whether each path is above the one before it
abbrev pub rises : Option (List ℕ) → Listing → Bool
rises last [] = true
rises last (line ∷ lines) = is_above last line.0 && rises (Some line.0) lines
