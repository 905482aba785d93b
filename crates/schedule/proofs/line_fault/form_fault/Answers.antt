use Rattle.std.proofs.Common.{arith}
use Rattle.std.proofs.lemmas.List.{length-map}
use Rattle.schedule.proofs.line_fault.form_fault.Goals as goal

pub whole_fault-requires-clause-fit : goal.whole_fault-requires-clause-fit
whole_fault-requires-clause-fit c =
    let each = rw c.in_default.is at c.in_ok-fault.ensures in
    let len = length-map c.args.words.now (λ w. w.now) in
    let enough = rw c.form.ensures.words at c.if-words-form.false in
    record { each = each; enough = omega (arith, len, enough) }
