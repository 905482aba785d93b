use Rattle.std.proofs.Common.{◌≡◌, ◌++◌, take}
use Rattle.std.specs.List.{flat_map}
use Rattle.std.specs.String.{string_bytes}
use Rattle.coordinatorfilter.specs.Written.{ended_line}
use Rattle.coordinatorfilter.proofs.printing.push_ended.Given as goal

abbrev pub invariant-loop-lease : goal.invariant-loop-lease
invariant-loop-lease l = string_bytes l.text ≡ string_bytes l.fn.text ++ flat_map ended_line (take l.lease-index l.ended)
