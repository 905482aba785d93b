use Rattle.std.proofs.Common.{arith}
use Rattle.nodeasks.proofs.RowLemmas.{rows_few}
use Rattle.nodecore.proofs.node_core.NodeCore.asks_held.Goals as goal

pub returns : goal.returns
returns c = (let few = rows_few c.args.self.now.asks.all.asks 0 c.args.self.now.asks.rows.items c.args.self.now.asks.tied in omega (arith, few, c.len.ensures))
