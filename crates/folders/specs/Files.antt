-- Folders: the content of each path, and the bytes that spell them (this project's own).
use Rattle.std.specs.Prelude.{ℕ, ◌*◌, ◌^◌, ◌≤◌, List, ◌++◌, length, Option}
use Rattle.std.specs.declared.cmp.Ordering.{Ordering}
use Rattle.std.specs.Ordering.{nat_cmp}
use Rattle.std.specs.Cmp.Lexicographic.{slice_cmp}
use Rattle.std.specs.BTreeMap.{is_at}
use Rattle.std.specs.Int.{w32, to_be_bytes}
use Rattle.std.specs.List.{flat_map, AllByRecursion}
use Rattle.std.specs.List.Sorted.{IsStrictlySortedBy}
use Rattle.std.specs.Map.{keys_of, lookup}
use Rattle.std.specs.Str.{IsUtf8}

-- a finite map: the paths, rising, and the content of each
abbrev pub Files : Type 0
Files = List (List ℕ × List ℕ)

-- paths are ordered by their bytes
abbrev pub path_cmp : List ℕ → List ℕ → Ordering
path_cmp = slice_cmp nat_cmp

-- the content at a path
abbrev pub content_at : Files → List ℕ → Option (List ℕ)
content_at files path = lookup (is_at (path_cmp path)) files

-- four bytes of length, big endian, and that many bytes
abbrev pub sized : List ℕ → List ℕ
sized bytes = to_be_bytes w32 (length bytes) ++ bytes

-- the path, then the content
abbrev pub file_bytes : List ℕ × List ℕ → List ℕ
file_bytes file = sized file.0 ++ sized file.1

-- one file after the other
abbrev pub folder_bytes : Files → List ℕ
folder_bytes files = flat_map file_bytes files

-- 16 MiB
abbrev pub most_bytes : ℕ
most_bytes = 16 * 2 ^ 20

-- the paths rise strictly and are UTF-8, and there are at most 16 MiB of folder bytes
pub record IsFolder (files : Files) : Type 0 where
  pub rise : IsStrictlySortedBy path_cmp (keys_of files)
  pub utf8 : AllByRecursion IsUtf8 (keys_of files)
  pub small : length (folder_bytes files) ≤ most_bytes
