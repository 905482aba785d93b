use Rattle.std.proofs.Common.{arith}
use Rattle.std.proofs.lemmas.Bool.Decides.{nat_tests}
use Rattle.nodeasks.proofs.CountLemmas.{rows_counted}
use Rattle.nodecore.proofs.node_core.NodeCore.forget_endings.Goals as goal

pub returns-then-not-is_due-clause-few : goal.returns-then-not-is_due-clause-few
returns-then-not-is_due-clause-few c =
    let asks = c.args.self.now.asks in
    let all = rows_counted asks.all.asks 0 asks.rows.items asks.tied in
    let due = c.is_due.ensures in
    let no = c.if-not-is_due.true in
    grind (arith, nat_tests)

pub returns-clause-few : goal.returns-clause-few
returns-clause-few c =
    let asks = c.forget_endings.new.self in
    let all = rows_counted asks.all.asks 0 asks.rows.items asks.tied in
    omega (arith, all, c.forget_endings.ensures.few)
