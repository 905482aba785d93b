use Rattle.std.proofs.Common.{ap, ◌∙◌}
use Rattle.std.specs.List.{list_any}
use Rattle.protocol.specs.Nodes.{is_tenure_of}
use Rattle.nodeasks.specs.declared.ask_row.AskRow.{AskRow}
use Rattle.nodeasks.proofs.ScanLemmas.{any_rows, tenures_pass}
use Rattle.nodeasks.proofs.scans.has_tenure.Goals as goal

pub returns : goal.returns
returns c =
    c.rows_tenure.ensures ∙ ap (list_any (λ (r : AskRow). is_tenure_of c.args.folder.now r.kept)) c.as_slice.ensures.value ∙ any_rows (is_tenure_of c.args.folder.now) (tenures_pass c.args.folder.now) c.args.asks.now.all.asks 0 c.args.asks.now.rows.items c.args.asks.now.tied
