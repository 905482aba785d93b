-- A farm stays safe and lawful, event by event.
use Rattle.std.proofs.Common.{◌≡◌, Result, Ok, Err, sym, subst}
use Rattle.names.specs.Contents.{content_digest}
use Rattle.names.specs.declared.limits.TheConstants.{NODES}
use Rattle.protocol.specs.Farm.{farm_limits}
use Rattle.protocol.specs.World.{start}
use Rattle.protocol.specs.Safe.{EveryRunIsSafe, EveryRunStaysSafe}
use Rattle.protocol.specs.Lawful.{IsEvent, IsLawfulFarm, EveryFarmStaysLawful}
use Rattle.protocol.specs.Replay.{Farm, Turn, step}
use Rattle.protocol.specs.Follows.{SafeAfter, SafeBetween, EveryEventIsMoves}
use Rattle.events.specs.declared.answer.EventRefusal.{EventRefusal}
use Rattle.events.specs.declared.answer.EventRefusal.TheVariants as refusal
use Rattle.events.specs.declared.answer.Outcome.{Outcome}
use Rattle.events.specs.declared.event.Event.{Event}
use Rattle.protocol.proofs.Schedules.{moves_trans}
use Rattle.world.specs.Turns.{Came}
use Rattle.world.proofs.MeaningLemmas.{means_as_told}

-- an event leads from a safe farm to a safe one
pub stays_safe : EveryEventIsMoves → EveryRunIsSafe → EveryRunStaysSafe → (old new : Farm) (e : Event) (r : Result Outcome EventRefusal) → SafeAfter content_digest old → Came (step content_digest farm_limits old e) old new r
    → SafeBetween content_digest old new
stays_safe law safe since old new e r before came =
    let next = means_as_told law old new e r came before.world before.moves before.shows in
    let all = moves_trans content_digest (start content_digest) before.world next.0 before.moves next.1 in
    record {
      before = before;
      after = record { world = next.0; moves = all; shows = next.2; safe = safe content_digest next.0 all };
      moves = next.1;
      since = since content_digest before.world next.0 before.moves next.1;
    }

lawful_turn : EveryFarmStaysLawful → (old : Farm) (e : Event) (turn : Turn) → IsEvent e → IsLawfulFarm NODES old → step content_digest farm_limits old e ≡ turn → IsLawfulFarm NODES turn.farm
lawful_turn law old e turn event lawful is = subst (λ (t : Turn). IsLawfulFarm NODES t.farm) is (law content_digest farm_limits NODES old e event lawful)

-- and from a lawful farm to a lawful one
pub stays_lawful : EveryFarmStaysLawful → (old new : Farm) (e : Event) (r : Result Outcome EventRefusal) → IsEvent e → IsLawfulFarm NODES old → Came (step content_digest farm_limits old e) old new r → IsLawfulFarm NODES new
stays_lawful law old new e (Ok o) event lawful came = lawful_turn law old e (record { farm = new; outcome = Ok o }) event lawful came
stays_lawful law old new e (Err refusal.OutOfMemory) event lawful came = subst (IsLawfulFarm NODES) (sym came) lawful
stays_lawful law old new e (Err refusal.NoSuchMessage) event lawful came = lawful_turn law old e (record { farm = new; outcome = Err refusal.NoSuchMessage }) event lawful came
stays_lawful law old new e (Err refusal.NoSuchNode) event lawful came = lawful_turn law old e (record { farm = new; outcome = Err refusal.NoSuchNode }) event lawful came
stays_lawful law old new e (Err (refusal.Node x)) event lawful came = lawful_turn law old e (record { farm = new; outcome = Err (refusal.Node x) }) event lawful came
stays_lawful law old new e (Err (refusal.Coord x)) event lawful came = lawful_turn law old e (record { farm = new; outcome = Err (refusal.Coord x) }) event lawful came
