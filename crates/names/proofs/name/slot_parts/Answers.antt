use Rattle.names.proofs.SlotLemmas.{plain_parts, marked_parts, same_instance}
use Rattle.names.proofs.name.slot_parts.Goals as goal

pub returns-in_err-instance-in-Some-clause-only : goal.returns-in_err-instance-in-Some-clause-only
returns-in_err-instance-in-Some-clause-only c = rw c.from_residual.ensures (λ s h e.
    let found = c.in-Some.ensures.found in
    let p = marked_parts c.args.text.now c.in-Some.folder.now c.in-Some.instance.now s h found.0 found.1 e in
    c.in_err-instance-in-Some.ensures.only s.instance p.2 p.1)

pub returns-in-None-clause-parts : goal.returns-in-None-clause-parts
returns-in-None-clause-parts c = λ s h e. plain_parts c.args.text.now s h c.in-None.ensures.only e

pub returns-in_ok-instance-in-Some-clause-parts : goal.returns-in_ok-instance-in-Some-clause-parts
returns-in_ok-instance-in-Some-clause-parts c = λ s h e.
    let found = c.in-Some.ensures.found in
    let p = marked_parts c.args.text.now c.in-Some.folder.now c.in-Some.instance.now s h found.0 found.1 e in
    let i = c.in_ok-instance-in-Some.ensures in
    (p.0, same_instance c.in-Some.instance.now c.in_ok-instance-in-Some.instance s.instance i.range p.2 i.found p.1)
