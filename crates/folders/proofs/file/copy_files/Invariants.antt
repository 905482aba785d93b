use Rattle.std.proofs.Common.{◌≡◌, take}
use Rattle.folders.proofs.file.copy_files.Given as goal

abbrev pub invariant-loop-path : goal.invariant-loop-path
invariant-loop-path l = l.copies.items ≡ take l.path-index l.files
