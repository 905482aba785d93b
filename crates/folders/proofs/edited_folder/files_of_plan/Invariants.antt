use Rattle.std.proofs.Common.{◌≡◌, ◌++◌, map}
use Rattle.std.specs.Map.Iter.{deref_pair}
use Rattle.folders.specs.Edits.{lent}
use Rattle.folders.proofs.edited_folder.files_of_plan.Given as goal

abbrev pub invariant-loop-path : goal.invariant-loop-path
invariant-loop-path l = l.files.items ++ map deref_pair l.path-iterator ≡ lent l.plan
