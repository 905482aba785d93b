use Rattle.std.proofs.Common.{◌≡◌, List, [], ◌++◌, ℕ, ap, ◌∙◌, append-nil}
use Rattle.protocol.specs.Machine.{Parked}
use Rattle.protocol.specs.Ledger.{Ledger}
use Rattle.leases.specs.Changes.{changed}
use Rattle.leases.specs.Leases.{Table}
use Rattle.holdings.specs.Leases.{among}
use Rattle.leases.proofs.ChangeLemmas.{changed-none}
use Rattle.effects.specs.Held.{ledger}
use Rattle.effects.specs.Keeps.{held}
use Rattle.parked.specs.Over.{still_waiting}
use Rattle.parked.specs.Queue.{asks_of}
use Rattle.parked.proofs.WaitingWords.{still-none}
use Rattle.effects.proofs.change.Change.new.Goals as goal

pub returns-clause-ledger : goal.returns-clause-ledger
returns-clause-ledger c =
    let q : Ledger = ledger (held c.args.base.now) in
    let t : Table = c.args.base.now.table in
    let asks : List Parked = asks_of c.args.base.now.parked in
    let table : changed t c.new.result ≡ t = ap (changed t) c.new.ensures ∙ changed-none t in
    let waits : still_waiting c.new-2.result.over.places.items asks ++ c.new-2.result.since.items ≡ asks =
    ap (λ (ms : List ℕ). still_waiting ms asks ++ c.new-2.result.since.items) c.new-2.ensures.over
    ∙ ap (λ (ps : List Parked). still_waiting [] asks ++ ps) c.new-2.ensures.since
    ∙ append-nil (still_waiting [] asks) ∙ still-none 0 asks in
    let tickets : c.in_ok-tickets.tickets ≡ c.args.base.now.tickets = c.in_ok-tickets.ensures in
    λ j. record q { live = (table j).live; retired = among (table j).retired; last = (tickets j).position; ceiling = (tickets j).ceiling; parked = waits j }
