use Rattle.std.proofs.Common.{◌≡◌, Result, subst, sym}
use Rattle.std.proofs.Math.Logic.{∥∥₁_map}
use Rattle.names.specs.Contents.{content_digest}
use Rattle.names.specs.declared.limits.TheConstants.{NODES}
use Rattle.protocol.specs.Farm.{farm_limits}
use Rattle.protocol.specs.Lawful.{IsLawfulFarm}
use Rattle.protocol.specs.Replay.{Farm, step}
use Rattle.events.specs.declared.event.Event.{Event}
use Rattle.events.specs.declared.answer.Outcome.{Outcome}
use Rattle.events.specs.declared.answer.EventRefusal.{EventRefusal}
use Rattle.world.specs.Shown.{shown}
use Rattle.world.specs.Parts.{shown_parts}
use Rattle.world.specs.Turns.{Came}
use Rattle.world.specs.declared.parts.Parts.{Parts}
use Rattle.world.proofs.MeaningLemmas.{means_as_told, grants_at_once, answers_asks}
use Rattle.world.proofs.SafeLemmas.{stays_safe, stays_lawful}
use Rattle.world.proofs.world.World.step.Goals as goal

-- what came of parts came of equal ones
came_of : (p q : Parts) (event : Event) (new : Farm) (r : Result Outcome EventRefusal) → p ≡ q → Came (step content_digest farm_limits (shown_parts p) event) (shown_parts p) new r → Came (step content_digest farm_limits (shown_parts q) event) (shown_parts q) new r
came_of p q event new r e came = subst (λ (x : Parts). Came (step content_digest farm_limits (shown_parts x) event) (shown_parts x) new r) e came

pub returns-clause-came : goal.returns-clause-came
unfolding shown
returns-clause-came c =
    came_of _ _ c.args.event (shown_parts c.carry_out.new.self) c.carry_out.result c.deref_mut.ensures.value c.carry_out.ensures

pub returns-clause-meaning : goal.returns-clause-meaning
unfolding shown
returns-clause-meaning c = means_as_told c.every_event_is_moves.ensures (shown c.args.self.now) (shown_parts c.carry_out.new.self) c.args.event c.carry_out.result
    (came_of _ _ c.args.event (shown_parts c.carry_out.new.self) c.carry_out.result c.deref_mut.ensures.value c.carry_out.ensures)

pub returns-clause-at_once : goal.returns-clause-at_once
unfolding shown
returns-clause-at_once c =
    grants_at_once c.a_fitting_message_is_granted.ensures (shown c.args.self.now) (shown_parts c.carry_out.new.self) c.args.event c.carry_out.result
    (came_of _ _ c.args.event (shown_parts c.carry_out.new.self) c.carry_out.result c.deref_mut.ensures.value c.carry_out.ensures)

pub returns-clause-asks : goal.returns-clause-asks
unfolding shown
returns-clause-asks c =
    answers_asks c.every_ask_is_answered.ensures.answered (shown c.args.self.now) (shown_parts c.carry_out.new.self) c.args.event c.carry_out.result
    (came_of _ _ c.args.event (shown_parts c.carry_out.new.self) c.carry_out.result c.deref_mut.ensures.value c.carry_out.ensures)

pub returns-clause-safe : goal.returns-clause-safe
unfolding shown
returns-clause-safe c =
    let came = came_of _ _ c.args.event (shown_parts c.carry_out.new.self) c.carry_out.result c.deref_mut.ensures.value c.carry_out.ensures in
    ∥∥₁_map c.args.self.now.sound (λ w.
    stays_safe c.every_event_is_moves.ensures c.every_run_is_safe.ensures.safe c.every_run_is_safe.ensures.stays (shown c.args.self.now) (shown_parts c.carry_out.new.self) c.args.event c.carry_out.result w.safe came)

pub invariant_of-self : goal.invariant_of-self
unfolding shown
invariant_of-self c =
    let came = came_of _ _ c.args.event (shown_parts c.carry_out.new.self) c.carry_out.result c.deref_mut.ensures.value c.carry_out.ensures in
    record {
      sound = ∥∥₁_map c.args.self.now.sound (λ w. record {
        safe =
            (stays_safe c.every_event_is_moves.ensures c.every_run_is_safe.ensures.safe c.every_run_is_safe.ensures.stays (shown c.args.self.now) (shown_parts c.carry_out.new.self) c.args.event c.carry_out.result w.safe came).after;
        lawful = stays_lawful c.every_farm_stays_lawful.ensures.stays (shown c.args.self.now) (shown_parts c.carry_out.new.self) c.args.event c.carry_out.result c.is_event.ensures w.lawful came;
      });
    }

pub carry_out-requires : goal.carry_out-requires
unfolding shown
carry_out-requires c = ∥∥₁_map c.args.self.now.sound (λ w. subst (λ (p : Parts). IsLawfulFarm NODES (shown_parts p)) (sym c.deref_mut.ensures.value) w.lawful)
