use Rattle.std.proofs.Common.{ℕ, ◌++◌, List, Ok, length, map, ap, ◌∙◌}
use Rattle.protocol.specs.Farm.{farm_limits}
use Rattle.protocol.specs.Ledger.{begin_work, nudged}
use Rattle.protocol.specs.Machine.{Told}
use Rattle.protocol.specs.Replay.{Farm}
use Rattle.events.specs.declared.answer.EventNote.TheVariants as note
use Rattle.farm_base.specs.declared.message.Message as sent
use Rattle.coordinator.specs.Held.{ledger}
use Rattle.world.specs.Parts.{shown_parts}
use Rattle.world.specs.Turns.{first_number}
use Rattle.world.proofs.CallLemmas.{call_done}
use Rattle.world.proofs.parts.Parts.nudge.Goals as goal

pub returns-else-is_err : goal.returns-else-is_err
returns-else-is_err c =
    let s : Farm = shown_parts c.args.self.now in
    let same = c.reserve.ensures.items in
    call_done s c.args.self.now.coordinator c.args.self.now.coordinator c.args.self.now.pool.items c.send_coordinator.new.pool.items c.in-Ok.handled c.send_coordinator.result
    (c.send_coordinator.ensures.pool ∙ ap (λ (l : List sent.Message). l ++ map Told c.in-Ok.handled.sends) same)
    (c.send_coordinator.ensures.outcome ∙ ap (λ (k : ℕ). record { note = note.Coord c.in-Ok.handled.note; first = first_number k (length c.in-Ok.handled.sends); sent = length c.in-Ok.handled.sends }) (ap length same))
    (Ok (nudged farm_limits (begin_work (ledger c.args.self.now.coordinator.held)))) c.in-Ok.ensures
