use Rattle.std.proofs.Common.{◌≡◌}
use Rattle.std.specs.List.{All}
use Rattle.names.specs.declared.folder.Mode.TheVariants.{Shared}
use Rattle.solving.proofs.work.add_wanted.Given as goal

-- the folders so far are SHARED
abbrev pub invariant-loop-want : goal.invariant-loop-want
invariant-loop-want l = All (λ folder. folder.mode ≡ Shared) l.folders.items
