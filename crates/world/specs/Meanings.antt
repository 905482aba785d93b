-- What is promised of one event of a world.
use Rattle.std.specs.Prelude.{◌≡◌, ℕ, nat_lt, false, List, Some, None, IfOk, OnOk, IsOkUnless, Result, Ok, Err, ⊤}
use Rattle.names.specs.Contents.{content_digest}
use Rattle.protocol.specs.Farm.{farm_limits}
use Rattle.farm_base.specs.declared.message.Request.TheVariants.{Acquire}
use Rattle.farm_base.specs.declared.message.FromCoord.TheVariants as told
use Rattle.protocol.specs.Lists.{In, nth}
use Rattle.protocol.specs.Machine.{Grant, Said, Told, ToCoord, Parked, acquire}
use Rattle.protocol.specs.Ledger.{Ledger, begin_work}
use Rattle.protocol.specs.World as protocol
use Rattle.protocol.specs.World.{Moves, start}
use Rattle.protocol.specs.Replay.{Farm}
use Rattle.protocol.specs.Follows.{Shows, MayBeGranted, after_life}
use Rattle.protocol.specs.Meaning.{CouldBeGranted, Means}
use Rattle.protocol.specs.Chronicle.{AsksAreAnswered}
use Rattle.protocol.specs.Reasons.{Fair}
use Rattle.events.specs.declared.answer.CoordNote.{CoordNote}
use Rattle.events.specs.declared.answer.CoordNote.TheVariants as coord
use Rattle.events.specs.declared.answer.EventNote.TheVariants as note
use Rattle.events.specs.declared.answer.EventRefusal.{EventRefusal}
use Rattle.events.specs.declared.answer.EventRefusal.TheVariants.{OutOfMemory}
use Rattle.events.specs.declared.answer.Outcome.{Outcome}
use Rattle.events.specs.declared.event.Event.{Event}
use Rattle.events.specs.declared.event.Event.TheVariants.{Deliver}
use Rattle.coordinator.specs.Promises.{granted}
use Rattle.world.specs.Replays.{replayed}

-- a refusal has its reason, and what is accepted has no reason to be refused; but for want of memory
abbrev pub IsFair : protocol.World → Farm → Event → Result Outcome EventRefusal → Type 0
IsFair world farm event (Err OutOfMemory) = ⊤
IsFair world farm event result = Fair farm_limits world farm event result

module _ (old : Farm) (event : Event) (result : Result Outcome EventRefusal) (new : Farm) where
  -- each world of a run that the farm was in moves to one that it is in now, and the event means there what it answered
  abbrev pub MeansAsTold : Type 0
  MeansAsTold = (world : protocol.World) → Moves content_digest (start content_digest) world
      → Shows content_digest world old
      → (later : protocol.World) × Moves content_digest world later × Shows content_digest later new
      × Means content_digest farm_limits old.size world event result later × IsFair world old event result

-- the event granted this, and sent it
pub record Grants (grant : Grant) (result : Result Outcome EventRefusal) (new : Farm) : Type 0 where
  pub done : IsOkUnless result OutOfMemory
  pub note : IfOk result (λ outcome. outcome.note ≡ note.Coord (coord.Granted grant))
  pub sent : OnOk result (In (Told (told.Granted grant)) new.pool)

module _ (old : Farm) (event : Event) (result : Result Outcome EventRefusal) (new : Farm) where
  -- in a run an Acquire that is delivered, of a node that isn't retired, of no older life, that the rules let be granted,
  -- is granted in that event, by a coordinator that isn't down and where no save is to fail
  abbrev pub GrantsAtOnce : Type 0
  GrantsAtOnce = (size : ℕ) (events : List Event)
      → old ≡ replayed size events
      → old.down ≡ false → old.armed ≡ None → (number : ℕ) (parked : Parked) → event ≡ Deliver number
      → let saying : ToCoord = record {
        node = parked.node;
        life = parked.life;
        request = Acquire parked.ask parked.wants parked.tenure;
      } in
      let after : Ledger = (after_life farm_limits parked.node parked.life (begin_work old.ledger)).ledger in
      nth old.pool number ≡ Some (Said saying) → old.ledger.gone parked.node.0 ≡ false
      → nat_lt parked.life.0 (old.ledger.lives parked.node.0) ≡ false
      → MayBeGranted farm_limits after parked → Grants (granted after parked) result new

-- the coordinator's answer is one of these
abbrev pub IsTold : (CoordNote → Type 0) → Result Outcome EventRefusal → Type 0
IsTold IsOne (Ok outcome) = (told : CoordNote) × (outcome.note ≡ note.Coord told) × IsOne told
IsTold IsOne (Err why) = why ≡ OutOfMemory

-- in a run an Acquire that is delivered, of a node that isn't retired, is answered by the slots of the machine,
-- whichever world the farm is in; where the coordinator isn't down and no save is to fail
abbrev pub AnswersAsks : Farm → Event → Result Outcome EventRefusal → Type 0
AnswersAsks old event result = (size : ℕ) (events : List Event)
    → old ≡ replayed size events
    → old.down ≡ false → old.armed ≡ None → (number : ℕ) (parked : Parked) → event ≡ Deliver number
    → nth old.pool number ≡ Some (acquire parked.node parked.life parked.ask parked.wants parked.tenure)
    → old.ledger.gone parked.node.0 ≡ false
    → (world : protocol.World) → Moves content_digest (start content_digest) world → Shows content_digest world old
    → IsTold (AsksAreAnswered farm_limits world.machine parked) result

-- whichever world the farm is in, no parked ask could be granted
abbrev pub NoneWaitsIdly : Farm → Type 0
NoneWaitsIdly farm = (world : protocol.World) → Shows content_digest world farm → (parked : Parked)
    → In parked world.machine.parked
    → CouldBeGranted farm_limits world.machine parked → ⊥
