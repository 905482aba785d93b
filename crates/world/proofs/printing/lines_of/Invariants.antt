use Rattle.std.proofs.Common.{◌≡◌, ◌++◌, drop}
use Rattle.std.specs.String.{string_bytes}
use Rattle.coordinator.specs.Held.{ledger}
use Rattle.world.specs.Printing.{lines_of}
use Rattle.world.proofs.printing.lines_of.Given as goal

abbrev pub invariant-loop-slot : goal.invariant-loop-slot
invariant-loop-slot l = string_bytes l.text ++ lines_of (ledger l.coordinator.held).line (drop l.slot-index l.slots) ≡ lines_of (ledger l.coordinator.held).line l.slots
