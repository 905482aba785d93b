use Rattle.std.proofs.Common.{inl, inr, sym, ◌∙◌, arith}
use Rattle.schedule.proofs.ScheduleLemmas.{setup_utf8, setup_number}
use Rattle.schedule.proofs.reading.setup_of.Goals as goal

pub returns-in_default-clause-only : goal.returns-in_default-clause-only
returns-in_default-clause-only c = λ s is. c.in_default.ensures.cases.0 (setup_utf8 c.args.line.now s is)

pub returns-else-nodes-ge1-clause-only : goal.returns-else-nodes-ge1-clause-only
returns-else-nodes-ge1-clause-only c = λ s is.
    let read = c.in_ok-nodes.ensures in
    let same = setup_number c.args.line.now c.in_ok-after.field-0.now c.in_ok-nodes.nodes s is (sym c.in-Ok.ensures.cases.0 ∙ c.in_ok-after.ensures.found) read.found read.range in
    let some = is.some in
    let few = is.few in
    elim c.else-nodes-ge1.either [ inl h ↦ omega arith | inr h ↦ omega arith ]
