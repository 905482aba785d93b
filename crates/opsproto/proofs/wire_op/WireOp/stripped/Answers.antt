use Rattle.std.proofs.Common.{ap, ◌∙◌}
use Rattle.opsproto.specs.Ops.{OpParts}
use Rattle.opsproto.proofs.OpLemmas.{stripped_is}
use Rattle.opsproto.proofs.wire_op.WireOp.stripped.Goals as goal

pub returns-in-Ok : goal.returns-in-Ok
returns-in-Ok c =
    stripped_is c.self.inside.bytes.now c.in-Ok.bytes.items c.self.invariant c.in-Ok.ensures ∙ ap (λ (op : OpParts). op.stripped) c.self.view_is
