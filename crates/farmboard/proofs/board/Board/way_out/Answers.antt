use Rattle.std.proofs.Common.{◌∙◌}
use Rattle.nodeasks.specs.Asks.{way_out_unless}
use Rattle.protocol.specs.Lists.{nth}
use Rattle.farmboard.proofs.board.Board.way_out.Goals as goal

-- no node of a farm forgets
pub returns-clause-way : goal.returns-clause-way
returns-clause-way c =
    c.way_out.ensures
    ∙ (λ j. way_out_unless (c.in_ok-core.ensures.told j c.args.token.now.ask.0) (nth (c.in_ok-core.ensures.node j).asks c.args.token.now.ask.0))
