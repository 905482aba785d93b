use Rattle.std.proofs.Common.{◌≡◌, ap, ◌∙◌, subst}
use Rattle.protocol.specs.Farm.{farm_limits}
use Rattle.protocol.specs.Follows.{NoneReady}
use Rattle.effects.specs.Held.{Held, ledger}
use Rattle.effects.specs.Keeps.{held}
use Rattle.ledger.specs.Seen.{Seen}
use Rattle.coordinator.proofs.Kept.{none_ready}
use Rattle.coordinator.proofs.coordinator.Coordinator.is_none_ready.Goals as goal

pub returns : goal.returns
returns g c =
    let same : held c.state-state.result.now ≡ c.args.self.now.held = c.state-state.ensures.held ∙ ap (λ (s : Seen g.row.K.Denot). s.held) c.self.view_is in
    subst (λ (h : Held). NoneReady farm_limits (ledger h)) same (none_ready (ledger (held c.state-state.result.now)) c.state-state.ensures.keepable.rightful.held_up)
