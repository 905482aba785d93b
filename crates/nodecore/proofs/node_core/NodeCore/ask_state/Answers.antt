use Rattle.std.proofs.Common.{◌≡◌, Some, ap, sym, ◌∙◌, option_map}
use Rattle.std.proofs.lemmas.Option.{get_or_from_slice_get}
use Rattle.nodeasks.specs.declared.ask_row.AskRow.{AskRow}
use Rattle.nodeasks.specs.Asks.{told_state, told_unless}
use Rattle.nodeasks.proofs.AskLemmas.{ask_at}
use Rattle.nodeasks.proofs.LostLemmas.{row_told}
use Rattle.nodecore.proofs.node_core.NodeCore.ask_state.Goals as goal

pub returns : goal.returns
returns c =
    let all = c.args.self.now.asks.all.asks in
    let rows = c.args.self.now.asks.rows.items in
    let k = c.in-Some.ensures.found in
    let same : c.index.result.now ≡ k.at = c.index.ensures ∙ get_or_from_slice_get rows c.in-Some.row k.at c.index.result.now k.get in
    let told = row_told all rows c.args.ask.0 c.in-Some.row k in
    let there = ask_at all rows c.args.ask.0 c.in-Some.row k c.args.self.now.asks.tied in
    ap (λ s. Some s) (c.in_ok-told.ensures ∙ ap (λ (r : AskRow). told_state r.kept) same) ∙ sym (λ j. option_map (told_unless (told j)) (there j))
