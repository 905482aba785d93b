use Rattle.std.proofs.Common.{◌≡◌, ◌++◌, drop}
use Rattle.leaseindex.specs.Index.{index_entries}
use Rattle.leaseindex.proofs.folder_index.entries_of.Given as goal

abbrev pub invariant-loop-lease : goal.invariant-loop-lease
invariant-loop-lease l = l.entries.items ++ index_entries (drop l.lease-index l.leases) ≡ index_entries l.leases
