use Rattle.std.proofs.Common.{sym, ap, ◌∙◌}
use Rattle.std.specs.Option.{option_copied}
use Rattle.keytable.specs.declared.entry.Entry.{Entry}
use Rattle.keytable.proofs.MarkLemmas.{is_some_copied, distinct, read_at, by_output, not_done}
use Rattle.keytable.proofs.marking.is_lost.Goals as goal

pub returns-in-Done : goal.returns-in-Done
returns-in-Done c =
    let t = c.args.table.now in
    let found = c.in-Some.ensures.found in
    let same = read_at t.entries.items c.in-Some.number found.0 c.index.result.now found.1 c.index.ensures in
    by_output t.entries.items c.args.marks.now (distinct t c.requires.table) c.args.input.now c.in-Some.number found.0 found.1 found.2
    (option_copied c.output_at.result) c.is_none.result (is_some_copied c.output_at.result c.is_none.result c.is_none.ensures) c.if-marks-number.false c.in-Done.outputs c.as_slice.result.now
    (ap (λ (x : Entry). x.progress) same ∙ c.in-Done.is) c.as_slice.ensures c.output_at.ensures

pub returns-in_default-progress : goal.returns-in_default-progress
returns-in_default-progress c =
    let t = c.args.table.now in
    let found = c.in-Some.ensures.found in
    let same = read_at t.entries.items c.in-Some.number found.0 c.index.result.now found.1 c.index.ensures in
    not_done t.entries.items c.args.marks.now (distinct t c.requires.table) c.args.input.now c.in-Some.number found.0 found.1 found.2
    c.if-marks-number.false (λ outputs done. c.in_default-progress.not-Done outputs (ap (λ (x : Entry). x.progress) (sym same) ∙ done))
