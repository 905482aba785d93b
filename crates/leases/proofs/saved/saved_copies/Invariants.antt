use Rattle.std.proofs.Common.{◌≡◌, ◌++◌, drop, filter}
use Rattle.protocol.specs.Ledger.{is_saved}
use Rattle.leases.proofs.saved.saved_copies.Given as goal

abbrev pub invariant-loop-lease : goal.invariant-loop-lease
invariant-loop-lease l = l.copies.items ++ filter is_saved (drop l.lease-index l.leases) ≡ filter is_saved l.leases
