use Rattle.farmhistory.specs.Shown.{shown}
use Rattle.farmhistory.proofs.HistoryLemmas.{board_starts}
use Rattle.farmboard.proofs.board.Board.start.Goals as goal

pub invariant_of-result : goal.invariant_of-result
invariant_of-result c =
    board_starts (shown c.in_ok-world.world) c.args.setup c.new.result.items c.new-2.result.items c.new-3.result.items c.new-4.result.items
    c.new.ensures.items c.new-2.ensures.items c.new-3.ensures.items c.new-4.ensures.items c.in_ok-world.ensures.farm c.in_ok-world.ensures.setup
