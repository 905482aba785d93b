use Rattle.std.proofs.Common.{◌≡◌, drop}
use Rattle.std.specs.Map.{lookup}
use Rattle.names.specs.Folders.{folder_eq}
use Rattle.slotfolders.proofs.seen.find.Given as goal

-- what is found among all is found among what is left
abbrev pub invariant-loop-other : goal.invariant-loop-other
invariant-loop-other g l = lookup (folder_eq l.name) l.folders ≡ lookup (folder_eq l.name) (drop l.other-index l.folders)
