use Rattle.std.proofs.Common.{◌∙◌}
use Rattle.keytable.proofs.OutputLemmas.{none_undone, none_lacking}
use Rattle.keytable.proofs.outputs.output_of.Goals as goal

pub returns-in-Done-clause-missing : goal.returns-in-Done-clause-missing
returns-in-Done-clause-missing c =
    let found = c.in_ok-number.ensures.found in
    none_lacking c.args.table.now c.requires c.args.input.now c.in_ok-number.number found.0 c.index.result.now found.1 found.2 c.index.ensures
    c.in-Done.outputs c.as_slice.result.now c.copied.result c.in-Done.is c.as_slice.ensures (c.copied.ensures ∙ c.output_at.ensures)

pub returns-in_default : goal.returns-in_default
returns-in_default c =
    let found = c.in_ok-number.ensures.found in
    record { there = tt; missing = none_undone c.args.table.now c.requires c.args.input.now c.in_ok-number.number found.0 c.index.result.now found.1 found.2 c.index.ensures c.in_default.not-Done }
