use Rattle.jobs.proofs.AnswerLemmas.{output_given, output_lacks, waits_unmarked}
use Rattle.jobs.proofs.answer.answer_of.Goals as goal

pub returns-in-Some-output_at : goal.returns-in-Some-output_at
returns-in-Some-output_at c =
    let found = c.in-Some.ensures.found in
    output_given c.args.table.now c.args.marks.now c.requires c.args.wanted.now c.in-Some.number found.0 c.index.result.now found.1 found.2 c.index.ensures
    c.in-Done.outputs c.as_slice.result.now c.in-Done.is c.as_slice.ensures c.in-Some-output_at.digest.now c.in-Some-output_at.ensures

pub returns-in-None : goal.returns-in-None
returns-in-None c =
    let found = c.in-Some.ensures.found in
    output_lacks c.args.table.now c.args.marks.now c.requires c.args.wanted.now c.in-Some.number found.0 c.index.result.now found.1 found.2 c.index.ensures
    c.in-Done.outputs c.as_slice.result.now c.in-Done.is c.as_slice.ensures c.in-None.ensures

pub returns-in_default-2 : goal.returns-in_default-2
returns-in_default-2 c =
    let found = c.in-Some.ensures.found in
    waits_unmarked c.args.table.now c.args.marks.now c.requires c.args.wanted.now c.in-Some.number found.0 c.index.result.now found.1 found.2 c.index.ensures
    c.in_default-progress.not-Done c.if-marks-number.false
