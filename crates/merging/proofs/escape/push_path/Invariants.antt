use Rattle.std.proofs.Common.{◌≡◌, ◌++◌, take}
use Rattle.merging.specs.Texts.{path_text}
use Rattle.merging.proofs.escape.push_path.Given as goal

abbrev pub invariant-loop-byte : goal.invariant-loop-byte
invariant-loop-byte l = l.text.items ≡ l.fn.text.items ++ path_text (take l.byte-index l.path)
