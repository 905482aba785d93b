use Rattle.leaseindex.proofs.InstanceLemmas.{AddedTo}
use Rattle.leaseindex.proofs.instances.Instances.add_all.Given as goal

abbrev pub invariant-loop-place : goal.invariant-loop-place
invariant-loop-place l = AddedTo l.place l.others.words l.initial.self.words l.self.words
