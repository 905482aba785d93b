use Rattle.std.proofs.Common.{◌≡◌, ◌<◌, ◌^◌, ◌++◌, length, map}
use Rattle.std.specs.Map.Iter.{deref_pair}
use Rattle.folders.specs.Edits.{lent}
use Rattle.folders.specs.Files.{folder_bytes}
use Rattle.folders.proofs.edited_folder.push_plan.Given as goal

-- what was written so far, and what is left to write, which is small
abbrev pub invariant-loop-path : goal.invariant-loop-path
invariant-loop-path l = record {
  written : l.out.items ++ folder_bytes (map deref_pair l.path-iterator) ≡ l.fn.out.items ++ folder_bytes (lent l.plan);
  small : length (folder_bytes (map deref_pair l.path-iterator)) < 2 ^ 32;
}
