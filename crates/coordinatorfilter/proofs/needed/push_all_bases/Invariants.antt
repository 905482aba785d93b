use Rattle.std.proofs.Common.{◌≡◌, ◌++◌, take}
use Rattle.std.specs.List.{flat_map}
use Rattle.std.specs.String.{string_bytes}
use Rattle.coordinatorfilter.specs.Shown.{bases_needed}
use Rattle.coordinatorfilter.proofs.needed.push_all_bases.Given as goal

abbrev pub invariant-loop-lease : goal.invariant-loop-lease
invariant-loop-lease g l = string_bytes l.text ≡ string_bytes l.fn.text ++ flat_map (bases_needed l.coordinator.held.lines) (take l.lease-index l.coordinator.held.live)
