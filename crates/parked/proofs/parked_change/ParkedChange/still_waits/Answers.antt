use Rattle.std.proofs.Common.{◌≡◌, true, List, sym, ◌∙◌}
use Rattle.protocol.specs.Machine.{Parked}
use Rattle.parked.specs.Newest.{knows}
use Rattle.parked.specs.Over.{still_waiting}
use Rattle.parked.specs.Queue.{asks_of}
use Rattle.parked.proofs.NewestWords.{unknown-not-parked, all-still}
use Rattle.parked.proofs.parked_change.ParkedChange.still_waits.Goals as goal

pub returns-then-not-may_have : goal.returns-then-not-may_have
returns-then-not-may_have c =
    let P : Parked → Type 0 = λ p. knows c.args.parked.now.newest p.node p.life p.ask ≡ true in
    let asks : List Parked = asks_of c.args.parked.now in
    sym (unknown-not-parked c.args.parked.now.newest (still_waiting c.args.self.now.over.places.items asks) c.args.node c.args.life c.args.ask
    (all-still P 0 c.args.self.now.over.places.items asks c.args.parked.now.known) (sym c.may_have.ensures ∙ c.if-not-may_have.true))
