use Rattle.std.proofs.Common.{◌≡◌, ◌++◌, drop}
use Rattle.leaseindex.specs.Instances.{slot_instances}
use Rattle.leaseindex.proofs.taken_instances.add_instances.Given as goal

abbrev pub invariant-loop-held : goal.invariant-loop-held
invariant-loop-held l = l.entries.items ++ slot_instances (drop l.held-index l.slots) ≡ l.initial.entries.items ++ slot_instances l.slots
