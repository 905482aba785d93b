use Rattle.std.proofs.Common.{◌∙◌, arith}
use Rattle.names.proofs.NameLemmas.{output_no_dot, output_parts, output_index}
use Rattle.names.proofs.name.output_of.Goals as goal

pub returns-in_err-key-clause-only : goal.returns-in_err-key-clause-only
returns-in_err-key-clause-only c = rw c.from_residual.ensures (λ b h e. output_no_dot c.args.text.now b c.in_err-key.ensures.only e)

pub returns-in_err-lower_digits-clause-only : goal.returns-in_err-lower_digits-clause-only
returns-in_err-lower_digits-clause-only c = rw c.from_residual-in_err-lower_digits.ensures (λ b h e.
    let found = c.in_ok-key.ensures.found in
    let p = output_parts c.args.text.now _ _ b h found.0 found.1 e in
    c.in_err-lower_digits.ensures.only b.key.0 h.key (c.as_bytes.ensures.value ∙ p.0))

pub returns-in_err-number-clause-only : goal.returns-in_err-number-clause-only
returns-in_err-number-clause-only c = rw c.from_residual-in_err-number.ensures (λ b h e.
    let found = c.in_ok-key.ensures.found in
    let p = output_parts c.args.text.now _ _ b h found.0 found.1 e in
    let small = h.index in
    c.in_err-number.ensures.only b.index (omega arith) p.1)

pub returns-in_err-index-clause-only : goal.returns-in_err-index-clause-only
returns-in_err-index-clause-only c = rw c.from_residual-in_err-index.ensures (λ b h e.
    let found = c.in_ok-key.ensures.found in
    let p = output_parts c.args.text.now _ _ b h found.0 found.1 e in
    let n = c.in_ok-number.ensures in
    let small = output_index _ _ b h n.range n.found p.1 in
    cc (c.in_err-index.ensures.found.1 small))
