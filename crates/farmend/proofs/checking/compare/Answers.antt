use Rattle.std.proofs.Common.{List, map}
use Rattle.std.specs.Borrow.{Bor}
use Rattle.executions.specs.declared.call.Call.{Call}
use Rattle.farmend.specs.declared.hired.Hired.{Hired}
use Rattle.farmend.proofs.NewsLemmas.{grew_if_new}
use Rattle.farmend.proofs.checking.compare.Goals as goal

pub returns : goal.returns
returns c =
    let nodes = map (λ (each : Hired). each.node) c.args.hired.now in
    let hads = map (λ (each : Hired). each.had.items) c.args.hired.now in
    let now = λ (calls : Bor (List Call)). calls.now in
    grew_if_new nodes hads (map now c.args.ends.now) c.in_ok-_news._news.items c.in_ok-_news.ensures
