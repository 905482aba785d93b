-- The order of folder names, and their equality.
use Rattle.std.specs.Prelude.{Bool, ◌&&◌, nat_eq}
use Rattle.std.specs.declared.cmp.Ordering.{Ordering}
use Rattle.std.specs.Ordering.{nat_cmp, ordering_then}
use Rattle.std.specs.Option.{option_cmp, option_eq}
use Rattle.std.specs.Cmp.Lexicographic.{slice_cmp, pointwise}
use Rattle.names.specs.declared.folder.Base.{Base}
use Rattle.names.specs.declared.folder.FolderName.{FolderName}
use Rattle.names.specs.Modes.{mode_index}

-- by key bytes, and then by index
abbrev pub base_cmp : Base → Base → Ordering
base_cmp a b = ordering_then (slice_cmp nat_cmp a.key.0.0 b.key.0.0) (nat_cmp a.index b.index)

-- by id bytes, mode and base, where none comes first
abbrev pub folder_cmp : FolderName → FolderName → Ordering
folder_cmp a b = ordering_then (slice_cmp nat_cmp a.id b.id) (ordering_then (nat_cmp (mode_index a.mode) (mode_index b.mode)) (option_cmp base_cmp a.base b.base))

-- the same key and index
abbrev pub base_eq : Base → Base → Bool
base_eq a b = pointwise nat_eq a.key.0.0 b.key.0.0 && nat_eq a.index b.index

-- the same folder
abbrev pub folder_eq : FolderName → FolderName → Bool
folder_eq a b = pointwise nat_eq a.id b.id && (nat_eq (mode_index a.mode) (mode_index b.mode) && option_eq base_eq a.base b.base)
