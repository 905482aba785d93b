use Rattle.std.proofs.Common.{◌≡◌, ap, sym, ◌∙◌}
use Rattle.std.proofs.lemmas.Option.{get_or_from_slice_get}
use Rattle.protocol.specs.Lists.{nth}
use Rattle.nodeasks.specs.declared.ask_row.AskRow.{AskRow}
use Rattle.nodeasks.specs.Asks.{way_out, way_out_unless}
use Rattle.nodeasks.specs.Rows.{has_row}
use Rattle.nodeasks.proofs.AskLemmas.{ask_at}
use Rattle.nodeasks.proofs.LostLemmas.{row_told, none_out}
use Rattle.nodecore.proofs.node_core.NodeCore.way_out.Goals as goal

pub returns-in_default : goal.returns-in_default
returns-in_default c = none_out (nth c.args.self.now.asks.all.asks c.args.ask.0) (has_row c.args.self.now.asks.rows.items c.args.ask.0) c.in_default.ensures.none

pub returns : goal.returns
returns c =
    let all = c.args.self.now.asks.all.asks in
    let rows = c.args.self.now.asks.rows.items in
    let k = c.in-Some.ensures.found in
    let same : c.index.result.now ≡ k.at = c.index.ensures ∙ get_or_from_slice_get rows c.in-Some.row k.at c.index.result.now k.get in
    let told = row_told all rows c.args.ask.0 c.in-Some.row k in
    let there = ask_at all rows c.args.ask.0 c.in-Some.row k c.args.self.now.asks.tied in
    c.way_out.ensures ∙ ap (λ (r : AskRow). way_out r.kept) same ∙ sym (λ j. way_out_unless (told j) (there j))
