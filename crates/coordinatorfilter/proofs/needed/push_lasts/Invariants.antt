use Rattle.std.proofs.Common.{◌≡◌, ◌++◌, take}
use Rattle.std.specs.List.{flat_map}
use Rattle.std.specs.String.{string_bytes}
use Rattle.coordinatorfilter.specs.Shown.{last_needed}
use Rattle.coordinatorfilter.proofs.needed.push_lasts.Given as goal

abbrev pub invariant-loop-slot : goal.invariant-loop-slot
invariant-loop-slot g l = string_bytes l.text ≡ string_bytes l.fn.text ++ flat_map (last_needed l.coordinator.held.lines) (take l.slot-index l.slots)
