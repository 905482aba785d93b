use Rattle.opsproto.specs.RawOps.{parts}
use Rattle.opsproto.proofs.OpLemmas.{is_op}
use Rattle.opsproto.proofs.read.op_checked.Goals as goal

pub new-requires : goal.new-requires
new-requires c = is_op c.requires.0 (parts c.args.raw) c.in_ok-kind.kind c.requires.1 c.in_ok-kind.ensures
