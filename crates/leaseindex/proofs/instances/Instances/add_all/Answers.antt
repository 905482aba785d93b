use Rattle.std.proofs.Common.{◌/◌, inl, inr, arith}
use Rattle.std.proofs.lemmas.Bool.{cases_lt}
use Rattle.leaseindex.proofs.InstanceLemmas.{bit_in-added, bit_in-past}
use Rattle.leaseindex.proofs.instances.Instances.add_all.Goals as goal

pub returns : goal.returns
returns c i = elim (cases_lt (i / 64) 65) [
  | inl inside ↦ bit_in-added c.args.others.now.words c.args.self.now.words c.loop-place.self.words i (c.loop-place.invariant.before (i / 64) (omega arith))
  | inr past ↦ bit_in-past c.args.others.now.words c.args.self.now.words c.loop-place.self.words i (omega arith) (omega arith) (omega (arith, c.loop-place.invariant.as_many))
]
