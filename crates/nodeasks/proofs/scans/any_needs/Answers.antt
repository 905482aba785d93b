use Rattle.std.proofs.Common.{ap, ◌∙◌}
use Rattle.std.specs.List.{list_any}
use Rattle.protocol.specs.Nodes.{needs}
use Rattle.nodeasks.specs.declared.ask_row.AskRow.{AskRow}
use Rattle.nodeasks.proofs.ScanLemmas.{any_rows, needs_pass}
use Rattle.nodeasks.proofs.scans.any_needs.Goals as goal

pub returns : goal.returns
returns c =
    c.rows_need.ensures ∙ ap (list_any (λ (r : AskRow). needs c.args.digest r.kept)) c.as_slice.ensures.value ∙ any_rows (needs c.args.digest) (needs_pass c.args.digest) c.args.asks.now.all.asks 0 c.args.asks.now.rows.items c.args.asks.now.tied
