use Rattle.std.proofs.Common.{[], refl, sym, ap, ◌∙◌}
use Rattle.std.specs.Option.{option_copied}
use Rattle.keytable.specs.declared.entry.Entry.{Entry}
use Rattle.keytable.specs.Marks.{is_lacking}
use Rattle.keytable.proofs.CauseLemmas.{match_lacks}
use Rattle.keytable.proofs.MarkLemmas.{is_some_copied, distinct, read_at, by_output, not_done}
use Rattle.keytable.proofs.blaming.lacks_output.Goals as goal

pub returns-in-Done : goal.returns-in-Done
returns-in-Done c =
    let t = c.args.table.now in
    let found = c.in-Some.ensures.found in
    let same = read_at t.entries.items c.in-Some.number found.0 c.index.result.now found.1 c.index.ensures in
    match_lacks t.entries.items c.args.input.now c.is_none.result
    (by_output t.entries.items [] (distinct t c.requires) c.args.input.now c.in-Some.number found.0 found.1 found.2
    (option_copied c.output_at.result) c.is_none.result (is_some_copied c.output_at.result c.is_none.result c.is_none.ensures) refl c.in-Done.outputs c.as_slice.result.now
    (ap (λ (x : Entry). x.progress) same ∙ c.in-Done.is) c.as_slice.ensures c.output_at.ensures)

pub returns-in_default-progress : goal.returns-in_default-progress
returns-in_default-progress c = λ l.
    let t = c.args.table.now in
    let found = c.in-Some.ensures.found in
    let same = read_at t.entries.items c.in-Some.number found.0 c.index.result.now found.1 c.index.ensures in
    not_done t.entries.items [] (distinct t c.requires) c.args.input.now c.in-Some.number found.0 found.1 found.2
    refl (λ outputs done. c.in_default-progress.not-Done outputs (ap (λ (x : Entry). x.progress) (sym same) ∙ done)) (is_lacking l)
