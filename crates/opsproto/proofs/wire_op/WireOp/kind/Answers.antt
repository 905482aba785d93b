use Rattle.std.proofs.Common.{ap, sym, ◌∙◌}
use Rattle.codec.proofs.Steps.{ok_is}
use Rattle.opsproto.specs.declared.refusal.OpRefusal.{OpRefusal}
use Rattle.opsproto.specs.Ops.{OpParts, op_in}
use Rattle.opsproto.proofs.OpLemmas.{kind_is}
use Rattle.opsproto.proofs.wire_op.WireOp.kind.Goals as goal

pub returns-in-Ok : goal.returns-in-Ok
returns-in-Ok c =
    let text = c.self.inside.bytes.now in
    ok_is {E = OpRefusal} c.in-Ok.kind (op_in text).kind (sym c.in-Ok.ensures ∙ kind_is text c.self.invariant) ∙ ap (λ (op : OpParts). op.kind) c.self.view_is
