use Rattle.std.proofs.Common.{◌≡◌, List, length, ap, ◌∙◌, arith}
use Rattle.protocol.specs.Machine.{Parked}
use Rattle.protocol.specs.Farm.{farm_limits}
use Rattle.effects.specs.Held.{Held, ledger}
use Rattle.drafts.proofs.OwnSends.{withdrawn_few, retired_few, pruned_none}
use Rattle.effects.specs.Queue.{asks_of}
use Rattle.ledger.specs.Seen.{Seen}
use Rattle.coordinator.proofs.coordinator.Coordinator.most_sends_of_calls.Goals as goal

pub returns-clause-withdraw : goal.returns-clause-withdraw
returns-clause-withdraw g c = λ t w e.
    let waiting : length c.waiting.result.now ≡ length (asks_of c.state.result.now.parked) = ap (λ (ps : List Parked). length ps) c.waiting.ensures in
    let parked : length (asks_of c.state.result.now.parked) ≡ length c.args.self.now.held.parked = ap (λ (h : Held). length h.parked) (c.state.ensures.held ∙ ap (λ (s : Seen g.row.K.Denot). s.held) c.self.view_is) in
    omega (arith, withdrawn_few farm_limits t (ledger c.args.self.now.held) w e, parked, waiting)

pub returns-clause-retire : goal.returns-clause-retire
returns-clause-retire g c = λ n w e.
    let waiting : length c.waiting.result.now ≡ length (asks_of c.state.result.now.parked) = ap (λ (ps : List Parked). length ps) c.waiting.ensures in
    let parked : length (asks_of c.state.result.now.parked) ≡ length c.args.self.now.held.parked = ap (λ (h : Held). length h.parked) (c.state.ensures.held ∙ ap (λ (s : Seen g.row.K.Denot). s.held) c.self.view_is) in
    omega (arith, retired_few farm_limits n (ledger c.args.self.now.held) w e, parked, waiting)

pub returns-clause-prune : goal.returns-clause-prune
returns-clause-prune g c = λ s w e. omega (arith, pruned_none farm_limits s (ledger c.args.self.now.held) w e)

pub returns-clause-value : goal.returns-clause-value
returns-clause-value g c =
    let waiting : length c.waiting.result.now ≡ length (asks_of c.state.result.now.parked) = ap (λ (ps : List Parked). length ps) c.waiting.ensures in
    let parked : length (asks_of c.state.result.now.parked) ≡ length c.args.self.now.held.parked = ap (λ (h : Held). length h.parked) (c.state.ensures.held ∙ ap (λ (s : Seen g.row.K.Denot). s.held) c.self.view_is) in
    omega (arith, parked, waiting)
