use Rattle.std.proofs.Common.{◌≡◌, ◌∙◌, List, sym, ap}
use Rattle.events.specs.declared.event.Event.{Event}
use Rattle.schedule.specs.declared.setup.Setup.{Setup}
use Rattle.executions.specs.Counts.{counts_of}
use Rattle.executions.specs.Replays.{replayed}
use Rattle.executions.proofs.ReplayLemmas.{counts_of-replayed}
use Rattle.solving.proofs.one.end_of.Goals as goal

pub returns-clause-replay : goal.returns-clause-replay
returns-clause-replay c =
    let nodes : c.args.board.setup.nodes ≡ c.args.setup.nodes = search in
    let same : c.args.board.setup ≡ c.args.setup = λ j. record { nodes = nodes j } in
    let told = ap (λ (events : List Event). counts_of (replayed c.args.setup events)) c.into_parts-schedule.ensures.schedule
    ∙ ap (λ (setup : Setup). counts_of (replayed setup c.args.board.events)) (sym same) ∙ counts_of-replayed c.args.board ∙ sym c.counts-counts.ensures.value in
    (λ j. (told j).refused) ∙ search

pub returns-clause-commits : goal.returns-clause-commits
returns-clause-commits c =
    let nodes : c.args.board.setup.nodes ≡ c.args.setup.nodes = search in
    let same : c.args.board.setup ≡ c.args.setup = λ j. record { nodes = nodes j } in
    let told = ap (λ (events : List Event). counts_of (replayed c.args.setup events)) c.into_parts-schedule.ensures.schedule
    ∙ ap (λ (setup : Setup). counts_of (replayed setup c.args.board.events)) (sym same) ∙ counts_of-replayed c.args.board ∙ sym c.counts-counts.ensures.value in
    λ j. (sym told j).committed
