use Rattle.std.proofs.Common.{◌∙◌}
use Rattle.protocol.specs.Nodes.{running}
use Rattle.nodecore.proofs.FirstLemmas.{picked}
use Rattle.nodeasks.proofs.ScanLemmas.{same_some}
use Rattle.nodecore.proofs.node_core.NodeCore.is_running.Goals as goal

pub returns : goal.returns
returns c = c.is_some.ensures ∙ same_some _ _ _ c.row_of.result c.row_of.ensures.found c.row_of.ensures.none ∙ picked (running c.args.ticket) c.args.self.now.asks.all.asks
