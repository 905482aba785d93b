use Rattle.std.proofs.Common.{◌<◌, ◌/◌, length, arith}
use Rattle.leaseindex.proofs.InstanceLemmas.{bit_in-remove}
use Rattle.leaseindex.proofs.instances.Instances.remove.Goals as goal

pub returns-then-place-lt-WORDS : goal.returns-then-place-lt-WORDS
returns-then-place-lt-WORDS c i to =
    let inside : c.args.instance / 64 < length c.args.self.now.words = omega arith in
    bit_in-remove c.args.self.now.words c.args.instance i inside
