use Rattle.std.proofs.Common.{◌≡◌, ◌++◌, drop}
use Rattle.leases.specs.Changes.{saved_tickets}
use Rattle.leases.proofs.saved.saved_tickets.Given as goal

abbrev pub invariant-loop-lease : goal.invariant-loop-lease
invariant-loop-lease l = l.tickets.items ++ saved_tickets l.ended (drop l.lease-index l.leases) ≡ saved_tickets l.ended l.leases
