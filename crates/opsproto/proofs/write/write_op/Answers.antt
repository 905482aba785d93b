use Rattle.std.proofs.Common.{◌≡◌, arith}
use Rattle.std.proofs.lemmas.Grind.{common_steps}
use Rattle.opsproto.specs.Writing.{op_text}
use Rattle.opsproto.proofs.OpLaws.{op_at_again}
use Rattle.opsproto.proofs.write.write_op.Goals as goal

pub returns-clause-read : goal.returns-clause-read
returns-clause-read c = λ fits.
    let text = c.extend_from_slice.new.self.items in
    let spelled : text ≡ op_text c.args.op.now = grind (arith, common_steps) in
    let valid = rw c.inputs.ensures at c.in_ok-put_inputs.ensures.valid in
    let is_op = rw c.stripped.ensures.value at c.stripped.ensures.kind in
    op_at_again c.args.op.now text spelled valid is_op fits
