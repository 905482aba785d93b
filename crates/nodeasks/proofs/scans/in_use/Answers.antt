use Rattle.std.proofs.Common.{◌≡◌, ◌+◌, ap, ◌∙◌}
use Rattle.std.proofs.lemmas.Option.{get_or_from_slice_get}
use Rattle.nodeasks.specs.declared.ask_row.AskRow.{AskRow}
use Rattle.nodeasks.specs.Asks.{is_in_use}
use Rattle.nodeasks.proofs.scans.in_use.Goals as goal

pub returns : goal.returns
returns c = λ at get.
    let same : c.index.result.now ≡ at = c.index.ensures ∙ get_or_from_slice_get c.args.asks.now.rows.items c.args.row at c.index.result.now get in
    c.is_row_used.ensures ∙ ap (λ (r : AskRow). is_in_use c.args.asks.now.all.asks (r.place + 1) r.kept) same
