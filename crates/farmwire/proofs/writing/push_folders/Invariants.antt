use Rattle.std.proofs.Common.{◌≡◌, ◌++◌, map, take}
use Rattle.std.specs.String.{string_bytes}
use Rattle.farmwire.specs.Lines.{tenure_text}
use Rattle.farmwire.specs.Words.{spaced}
use Rattle.farmwire.proofs.writing.push_folders.Given as goal

abbrev pub invariant-loop-want : goal.invariant-loop-want
invariant-loop-want l = string_bytes l.text ≡ string_bytes l.fn.text ++ spaced (map tenure_text (take l.want-index l.wants))
