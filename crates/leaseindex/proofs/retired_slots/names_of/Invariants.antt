use Rattle.std.proofs.Common.{◌≡◌, ◌++◌, drop}
use Rattle.leaseindex.specs.Instances.{slot_names}
use Rattle.leaseindex.proofs.retired_slots.names_of.Given as goal

abbrev pub invariant-loop-slot : goal.invariant-loop-slot
invariant-loop-slot l = l.names.items ++ slot_names (drop l.slot-index l.slots) ≡ slot_names l.slots
