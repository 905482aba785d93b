use Rattle.std.proofs.Common.{ℕ, ◌≤◌, ◌++◌, Result, Err, List, length, map, sym, ap, ◌∙◌, subst, arith}
use Rattle.std.proofs.lemmas.Grind.{common_steps}
use Rattle.protocol.specs.Farm.{farm_limits}
use Rattle.protocol.specs.Ledger.{Work, begin_work, withdrawn}
use Rattle.protocol.specs.Machine.{Told}
use Rattle.protocol.specs.Replay.{Farm, coordinated}
use Rattle.events.specs.declared.answer.EventNote.TheVariants as note
use Rattle.events.specs.declared.answer.CoordRefusal.{CoordRefusal}
use Rattle.farm_base.specs.declared.message.Message as sent
use Rattle.coordinator.specs.Held.{ledger}
use Rattle.world.specs.Parts.{shown_parts, with_coordinator}
use Rattle.world.specs.Turns.{Came, first_number, from_coordinator}
use Rattle.world.proofs.CallLemmas.{sends_fit, call_done, call_refused}
use Rattle.world.proofs.parts.Parts.withdraw.Goals as goal

pub send_coordinator-requires : goal.send_coordinator-requires
send_coordinator-requires c =
    let few : length c.in-Ok.handled.sends ≤ c.most_sends_of_calls-room.result =
    sends_fit c.args.self.now.coordinator c.withdraw.new.self c.in-Ok.handled c.most_sends_of_calls-room.result (withdrawn farm_limits c.args.ticket (begin_work (ledger c.args.self.now.coordinator.held))) c.in-Ok.ensures.answer (c.most_sends_of_calls-room.ensures.withdraw c.args.ticket) in
    grind (arith, common_steps)

pub returns-in-Ok : goal.returns-in-Ok
returns-in-Ok c =
    let s : Farm = shown_parts c.args.self.now in
    let same = c.reserve.ensures.items in
    call_done s c.args.self.now.coordinator c.withdraw.new.self c.args.self.now.pool.items c.send_coordinator.new.pool.items c.in-Ok.handled c.send_coordinator.result
    (c.send_coordinator.ensures.pool ∙ ap (λ (l : List sent.Message). l ++ map Told c.in-Ok.handled.sends) same)
    (c.send_coordinator.ensures.outcome ∙ ap (λ (k : ℕ). record { note = note.Coord c.in-Ok.handled.note; first = first_number k (length c.in-Ok.handled.sends); sent = length c.in-Ok.handled.sends }) (ap length same))
    (withdrawn farm_limits c.args.ticket (begin_work (ledger c.args.self.now.coordinator.held))) c.in-Ok.ensures.answer

pub returns-in-Err : goal.returns-in-Err
returns-in-Err c =
    let s : Farm = shown_parts c.args.self.now in
    let r : Result Work CoordRefusal = withdrawn farm_limits c.args.ticket (begin_work (ledger c.args.self.now.coordinator.held)) in
    subst (λ e. Came (coordinated s.down r s) s (with_coordinator s c.withdraw.new.self c.reserve.new.self.items) (Err e)) (sym c.from_coordinator.ensures)
    (subst (λ (l : List sent.Message). Came (coordinated s.down r s) s (with_coordinator s c.withdraw.new.self l) (Err (from_coordinator c.in-Err.refusal))) (sym c.reserve.ensures.items)
    (call_refused s c.args.self.now.coordinator c.withdraw.new.self c.args.self.now.pool.items r c.in-Err.refusal c.in-Err.ensures.answer))
