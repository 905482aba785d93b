use Rattle.std.proofs.Common.{◌≡◌, ◌++◌, drop}
use Rattle.std.specs.Prelude.{Ok}
use Rattle.std.specs.List.{zip}
use Rattle.codec.specs.Steps.{◌>>=◌}
use Rattle.slotfolders.specs.Seen.{read_all}
use Rattle.slotfolders.proofs.seen.read_leased.Given as goal

-- what all contents spell is what was read, and what the others spell
abbrev pub invariant-loop-slot : goal.invariant-loop-slot
invariant-loop-slot l = read_all (zip l.slots l.contents) ≡ (read_all (zip (drop l.slot-index l.slots) l.rest) >>= λ others. Ok (l.folders.items ++ others))
