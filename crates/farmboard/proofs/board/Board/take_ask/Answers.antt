use Rattle.std.proofs.Common.{sym, ◌∙◌}
use Rattle.farmhistory.proofs.NoteLemmas.{not_unasked}
use Rattle.farmboard.proofs.board.Board.take_ask.Goals as goal

pub unreachable-requires : goal.unreachable-requires
unreachable-requires c = not_unasked c.args.self.now c.take.new.self c.args.event c.in_ok-outcome.outcome c.requires c.in_ok-outcome.ensures (sym c.asked.ensures ∙ c.in-None.is)
