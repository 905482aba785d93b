use Rattle.std.proofs.Common.{◌≡◌, ◌++◌, drop}
use Rattle.leaseindex.specs.Index.{slot_entries}
use Rattle.leaseindex.proofs.folder_index.add_entries.Given as goal

abbrev pub invariant-loop-held : goal.invariant-loop-held
invariant-loop-held l = l.entries.items ++ slot_entries l.ticket (drop l.held-index l.slots) ≡ l.initial.entries.items ++ slot_entries l.ticket l.slots
