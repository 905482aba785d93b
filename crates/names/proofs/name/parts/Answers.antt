use Rattle.names.proofs.NameLemmas.{base_spelled}
use Rattle.names.proofs.name.parts.Goals as goal

pub returns-in_err-base-in-Some-clause-only : goal.returns-in_err-base-in-Some-clause-only
returns-in_err-base-in-Some-clause-only c = rw c.from_residual-in_err-base-in-Some.ensures (λ f h e.
    let split = c.in-Some.ensures.found in
    base_spelled c.args.text.now c.in_ok-mode.rest.now c.in-Some.id.now c.in-Some.base.now c.in_ok-mode.mode f h
    c.in_ok-mode.ensures.found split.0 split.1 e c.in_err-base-in-Some.ensures.only)
