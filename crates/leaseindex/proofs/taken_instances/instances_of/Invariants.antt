use Rattle.std.proofs.Common.{◌≡◌, ◌++◌, drop}
use Rattle.leaseindex.specs.Instances.{lease_instances}
use Rattle.leaseindex.proofs.taken_instances.instances_of.Given as goal

abbrev pub invariant-loop-lease : goal.invariant-loop-lease
invariant-loop-lease l = l.entries.items ++ lease_instances (drop l.lease-index l.leases) ≡ lease_instances l.leases
