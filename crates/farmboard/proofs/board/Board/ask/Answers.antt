use Rattle.std.proofs.Common.{refl}
use Rattle.farmhistory.proofs.NoteLemmas.{asker_there}
use Rattle.farmboard.proofs.board.Board.ask.Goals as goal

pub returns-clause-token : goal.returns-clause-token
returns-clause-token c =
    let did = c.in_ok-ask.ensures.ok in
    record { node = refl; life = c.life_of-life.ensures (asker_there c.args.self.now c.args.node c.args.wants did.0 did.2.1); wants = c.in_ok-copy.ensures }
