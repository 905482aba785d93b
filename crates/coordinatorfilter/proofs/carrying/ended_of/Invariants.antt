use Rattle.std.proofs.Common.{◌≡◌, take, filter, map}
use Rattle.coordinatorlines.specs.Calls.{called}
use Rattle.coordinatorfilter.specs.Carried.{ends, ended_of}
use Rattle.coordinatorfilter.proofs.carrying.ended_of.Given as goal

abbrev pub invariant-loop-lease : goal.invariant-loop-lease
invariant-loop-lease l = l.ended.items ≡ map ended_of (filter (ends (called l.call)) (take l.lease-index l.live))
