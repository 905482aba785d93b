use Rattle.std.proofs.Common.{◌≡◌, true, arith}
use Rattle.protocol.specs.Names.{Want}
use Rattle.parked.specs.Noted.{notes_want}
use Rattle.parked.proofs.NotedWords.{each_in}
use Rattle.parked.proofs.noted_asks.NotedAsks.add_wants.Goals as goal

pub returns-clause-added : goal.returns-clause-added
returns-clause-added c w i =
    each_in (λ (v : Want). notes_want c.loop-want.self v.folder c.args.number ≡ true) c.args.wants.now (λ k d inside. c.loop-want.invariant.added k d (omega arith)) w i
