use Rattle.std.proofs.Common.{◌∙◌, sym}
use Rattle.protocol.specs.Lists.{nth}
use Rattle.nodeasks.specs.Rows.{has_row}
use Rattle.nodeasks.proofs.LostLemmas.{lost_told, none_told}
use Rattle.nodecore.proofs.node_core.NodeCore.lost_state.Goals as goal

pub returns-then-has_made : goal.returns-then-has_made
returns-then-has_made c =
    lost_told (nth c.args.self.now.asks.all.asks c.args.ask.0) (has_row c.args.self.now.asks.rows.items c.args.ask.0) c.requires (sym c.has_made.ensures ∙ c.if-has_made.true)

pub returns-else-has_made : goal.returns-else-has_made
returns-else-has_made c =
    none_told (nth c.args.self.now.asks.all.asks c.args.ask.0) (has_row c.args.self.now.asks.rows.items c.args.ask.0) (sym c.has_made.ensures ∙ c.if-has_made.false)
