use Rattle.std.proofs.Common.{◌≡◌, ◌++◌, take}
use Rattle.folders.specs.Files.{folder_bytes}
use Rattle.folders.proofs.writing.push_files.Given as goal

abbrev pub invariant-loop-path : goal.invariant-loop-path
invariant-loop-path l = l.out.items ≡ l.fn.out.items ++ folder_bytes (take l.path-index l.files)
