-- Edits of a folder (this project's own).
use Rattle.std.specs.Prelude.{ℕ, List, map, fold}
use Rattle.std.specs.Borrow.{Bor}
use Rattle.std.specs.BTreeMap.{BTreeMap, insert_entry, is_at}
use Rattle.std.specs.Map.Iter.{deref_pair}
use Rattle.std.specs.Map.{remove_entry}
use Rattle.folders.specs.declared.edit.Edit.{Edit}
use Rattle.folders.specs.declared.edit.Edit.TheVariants.{Put, Remove}
use Rattle.folders.specs.Files.{Files, path_cmp}

-- the map with this content at the path, or with none
abbrev pub edited : Files → Edit → Files
edited files (Put path content) = insert_entry path_cmp files path content
edited files (Remove path) = remove_entry (is_at (path_cmp path)) files

-- the map after the edits, one after the other
abbrev pub edited_all : Files → List Edit → Files
edited_all files edits = fold edited files edits

-- the files of a map that lends them
abbrev pub lent : BTreeMap (Bor (List ℕ)) (Bor (List ℕ)) → Files
lent plan = map deref_pair plan.entries
