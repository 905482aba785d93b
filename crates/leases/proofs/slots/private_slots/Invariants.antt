use Rattle.std.proofs.Common.{◌≡◌, ◌++◌, drop}
use Rattle.leases.specs.Table.{private_slots}
use Rattle.leases.proofs.slots.private_slots.Given as goal

abbrev pub invariant-loop-held : goal.invariant-loop-held
invariant-loop-held l = l.private.items ++ private_slots (drop l.held-index l.slots) ≡ private_slots l.slots
