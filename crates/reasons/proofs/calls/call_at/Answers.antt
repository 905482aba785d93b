use Rattle.std.proofs.Common.{◌≡◌, ◌==◌, true, get_or, sym, ap, ◌∙◌, List}
use Rattle.std.specs.Borrow.{Bor}
use Rattle.std.proofs.lemmas.Bool.{not-false}
use Rattle.std.proofs.lemmas.List.{get_or_read}
use Rattle.std.proofs.lemmas.Option.{IfSome_then}
use Rattle.names.specs.declared.number.NodeId.{NodeId}
use Rattle.executions.specs.declared.call.Call.{Call}
use Rattle.reasons.proofs.NewsLemmas.{on_node_has}
use Rattle.reasons.proofs.calls.call_at.Goals as goal

pub returns : goal.returns
returns c =
    let news = c.args.news.now in
    let k = c.args.executor in
    let within = c.if-executor-news.false in
    let first : NodeId × Bor (List Call) = c.index-news-executor.result in
    let second : NodeId × Bor (List Call) = c.index-news-executor-2.result in
    let each : NodeId × Bor (List Call) = get_or news k second in
    let one : each ≡ get_or news k first = sym (get_or_read news k first within c.index-news-executor.is second) ∙ c.index-news-executor.is in
    let here : (each.0.0 == c.args.node.0) ≡ true =
    ap (λ (e : NodeId × Bor (List Call)). e.0.0 == c.args.node.0) one ∙ not-false ((get_or news k first).0.0 == c.args.node.0) (sym c.ne.ensures ∙ c.if-ne.false) in
    let there = on_node_has c.args.node news each (k, within, ap (λ (d : NodeId × Bor (List Call)). get_or news k d) (sym c.index-news-executor-2.is)) here in
    IfSome_then c.call_in.result c.call_in.ensures (λ call made. record { calls = each.1.now; made = there; there = made })
