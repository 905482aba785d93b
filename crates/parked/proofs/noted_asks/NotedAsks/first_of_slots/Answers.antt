use Rattle.std.proofs.Common.{Bool, arith}
use Rattle.protocol.specs.Names.{Slot}
use Rattle.parked.specs.Noted.{notes_want}
use Rattle.parked.proofs.NotedWords.{some_at}
use Rattle.parked.proofs.noted_asks.NotedAsks.first_of_slots.Goals as goal

pub returns : goal.returns
returns c = λ n le some.
    let r = some_at (λ (held : Slot × Bool). notes_want c.args.self.now held.0.folder n) c.args.slots.now some in
    c.loop-held.invariant n r.0 r.1 le (let inside = r.2 in omega arith) r.3
