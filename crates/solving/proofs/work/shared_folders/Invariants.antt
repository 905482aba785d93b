use Rattle.std.proofs.Common.{◌≡◌}
use Rattle.std.specs.List.{All}
use Rattle.names.specs.declared.folder.Mode.TheVariants.{Shared}
use Rattle.solving.proofs.work.shared_folders.Given as goal

-- the folders so far are SHARED
abbrev pub invariant-loop-keyed : goal.invariant-loop-keyed
invariant-loop-keyed l = All (λ folder. folder.mode ≡ Shared) l.folders.items
