use Rattle.std.proofs.Common.{◌/◌}
use Rattle.std.specs.Prelude.{replicate}
use Rattle.leaseindex.proofs.InstanceLemmas.{bit_in-zero, zero_at}
use Rattle.leaseindex.proofs.instances.Instances.new.Goals as goal

pub returns : goal.returns
returns c i = bit_in-zero (replicate 65 0) i (zero_at 65 (i / 64))
