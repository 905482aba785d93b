use Rattle.std.proofs.Common.{◌≡◌, ◌++◌, drop, map}
use Rattle.draw.specs.Events.{held_of}
use Rattle.draw.proofs.event.held_of.Given as goal

abbrev pub invariant-loop-lease : goal.invariant-loop-lease
invariant-loop-lease l = l.live.items ++ map held_of (drop l.lease-index l.leases) ≡ map held_of l.leases
