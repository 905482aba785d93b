use Rattle.std.proofs.Common.{◌≡◌}
use Rattle.std.specs.List.{All}
use Rattle.names.specs.declared.folder.Mode.TheVariants.{Shared}
use Rattle.solving.proofs.work.add_folders.Given as goal

-- the folders so far are SHARED
abbrev pub invariant-loop-vertex : goal.invariant-loop-vertex
invariant-loop-vertex l = All (λ folder. folder.mode ≡ Shared) l.folders.items
