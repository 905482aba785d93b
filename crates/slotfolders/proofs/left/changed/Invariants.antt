use Rattle.std.proofs.Common.{◌≡◌, ◌++◌, List, drop, true}
use Rattle.std.specs.List.{list_all}
use Rattle.names.specs.declared.folder.FolderName.{FolderName}
use Rattle.folders.specs.Files.{Files}
use Rattle.slotfolders.specs.Seen.{Named, folder_seen}
use Rattle.slotfolders.specs.Left.{FolderEdits, is_small, changed}
use Rattle.slotfolders.proofs.left.changed.Given as goal

-- the folders so far are small, and those of the other edits decide
pub record SoFar (seen : FolderName → Files) (all others : List FolderEdits) (folders : List Named) : Type 0 where
  pub whole : changed seen all ≡ folders ++ changed seen others
  pub small : list_all is_small folders ≡ true
  pub decide : list_all is_small (changed seen all) ≡ list_all is_small (changed seen others)

abbrev pub invariant-loop-edit : goal.invariant-loop-edit
invariant-loop-edit l = SoFar (folder_seen l.seen.leased l.seen.shared) l.edits (drop l.edit-index l.edits) l.folders.items
