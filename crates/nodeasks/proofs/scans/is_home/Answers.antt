use Rattle.std.proofs.Common.{ap, ◌∙◌}
use Rattle.std.specs.List.{list_any}
use Rattle.protocol.specs.Nodes.{is_home_of}
use Rattle.nodeasks.specs.declared.ask_row.AskRow.{AskRow}
use Rattle.nodeasks.proofs.ScanLemmas.{any_rows, homes_pass}
use Rattle.nodeasks.proofs.scans.is_home.Goals as goal

pub returns : goal.returns
returns c =
    c.rows_home.ensures ∙ ap (list_any (λ (r : AskRow). is_home_of c.args.folder.now r.kept)) c.as_slice.ensures.value ∙ any_rows (is_home_of c.args.folder.now) (homes_pass c.args.folder.now) c.args.asks.now.all.asks 0 c.args.asks.now.rows.items c.args.asks.now.tied
