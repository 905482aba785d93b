use Rattle.opsproto.proofs.PieceLemmas.{stands_found}
use Rattle.opsproto.proofs.wire_op.stripped_place.Goals as goal

pub returns-in-Ok : goal.returns-in-Ok
returns-in-Ok c = stands_found c.in-Ok.found c.args.bytes.now c.requires c.in-Ok.ensures
