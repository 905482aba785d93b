use Rattle.std.proofs.Common.{◌≡◌, map, take}
use Rattle.merging.specs.Texts.{swapped}
use Rattle.merging.proofs.escape.swapped_all.Given as goal

abbrev pub invariant-loop-byte : goal.invariant-loop-byte
invariant-loop-byte l = l.path.items ≡ map swapped (take l.byte-index l.bytes)
