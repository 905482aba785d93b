use Rattle.opsproto.proofs.read.read_lent_op.Goals as goal

pub op_checked-requires : goal.op_checked-requires
op_checked-requires c = (c.args.bytes.now, c.in_ok-raw.ensures)
