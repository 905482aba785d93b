use Rattle.std.proofs.Common.{arith}
use Rattle.nodeasks.proofs.CountLemmas.{rows_counted}
use Rattle.nodeasks.proofs.ask_table.AskTable.is_due.Goals as goal

pub overflow_mul-result-2 : goal.overflow_mul-result-2
overflow_mul-result-2 c =
    let few = rows_counted c.args.self.now.all.asks 0 c.args.self.now.rows.items c.args.self.now.tied in
    omega (arith, few, c.args.self.now.over_counted, c.len.ensures)
