use Rattle.std.proofs.Common.{◌≡◌, List, length, ap, ◌∙◌, arith}
use Rattle.protocol.specs.Machine.{Parked}
use Rattle.protocol.specs.Farm.{farm_limits}
use Rattle.effects.specs.Held.{Held, ledger}
use Rattle.drafts.proofs.Sends.{handled_few}
use Rattle.effects.specs.Queue.{asks_of}
use Rattle.ledger.specs.Seen.{Seen}
use Rattle.coordinator.proofs.coordinator.Coordinator.most_sends.Goals as goal

pub returns-clause-most : goal.returns-clause-most
returns-clause-most g c = λ y.
    let waiting : length c.waiting.result.now ≡ length (asks_of c.state.result.now.parked) = ap (λ (ps : List Parked). length ps) c.waiting.ensures in
    let parked : length (asks_of c.state.result.now.parked) ≡ length c.args.self.now.held.parked = ap (λ (h : Held). length h.parked) (c.state.ensures.held ∙ ap (λ (s : Seen g.row.K.Denot). s.held) c.self.view_is) in
    omega (arith, handled_few farm_limits y (ledger c.args.self.now.held), parked, waiting)

pub returns-clause-value : goal.returns-clause-value
returns-clause-value g c =
    let waiting : length c.waiting.result.now ≡ length (asks_of c.state.result.now.parked) = ap (λ (ps : List Parked). length ps) c.waiting.ensures in
    let parked : length (asks_of c.state.result.now.parked) ≡ length c.args.self.now.held.parked = ap (λ (h : Held). length h.parked) (c.state.ensures.held ∙ ap (λ (s : Seen g.row.K.Denot). s.held) c.self.view_is) in
    omega (arith, parked, waiting)
