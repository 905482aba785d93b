use Rattle.std.proofs.Common.{◌∙◌, ◌&&◌, not, ap}
use Rattle.std.specs.Prelude.{◌==◌}
use Rattle.std.specs.List.{list_any}
use Rattle.nodeasks.specs.declared.ask_row.AskRow.{AskRow}
use Rattle.nodeasks.proofs.ScanLemmas.{uses_any, others_rows}
use Rattle.nodeasks.proofs.scans.others_use.Goals as goal

pub returns : goal.returns
returns c =
    c.other_rows_use.ensures ∙ ap (list_any (λ (r : AskRow). not (r.place == c.args.place) && uses_any c.args.wants.now r.kept)) c.as_slice.ensures.value ∙ others_rows c.args.place c.args.wants.now c.args.asks.now.all.asks 0 c.args.asks.now.rows.items c.args.asks.now.tied
