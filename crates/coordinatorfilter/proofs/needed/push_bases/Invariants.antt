use Rattle.std.proofs.Common.{◌≡◌, ◌++◌, take}
use Rattle.std.specs.List.{flat_map}
use Rattle.std.specs.String.{string_bytes}
use Rattle.coordinatorfilter.specs.Shown.{base_needed}
use Rattle.coordinatorfilter.proofs.needed.push_bases.Given as goal

abbrev pub invariant-loop-leased : goal.invariant-loop-leased
invariant-loop-leased g l = string_bytes l.text ≡ string_bytes l.fn.text ++ flat_map (base_needed l.coordinator.held.lines) (take l.leased-index l.lease.slots)
