-- What the rules are beside the headline: what no event changes, whom a message reaches, and what a parked ask waits for
-- (docs/PROOFS.md, "What is accepted").
use Rattle.std.specs.Prelude.{◌≡◌, ◌≢◌, ℕ, ◌+◌, ◌==◌, if◌then◌else◌, true, false, ◌⊎◌, None, Some, List, [], ◌∷◌, ◌++◌, length, Ok, Err}
use Rattle.protocol.specs.Lists.{In, put, nth}
use Rattle.protocol.specs.Names.{Private, NodeId, Life, Digest, Want}
use Rattle.protocol.specs.Machine.{Message, Said, ToCoord, Fetch, Fetches, Blob, Parked, Machine, Leased}
use Rattle.events.specs.declared.answer.CoordNote.TheVariants as coord
use Rattle.events.specs.declared.answer.CoordRefusal.TheVariants as coord_refusal
use Rattle.events.specs.declared.answer.NodeNote.TheVariants as node_note
use Rattle.events.specs.declared.answer.NodeRefusal.TheVariants as node_refusal
use Rattle.events.specs.declared.answer.EventNote.TheVariants as note
use Rattle.events.specs.declared.answer.EventRefusal.{EventRefusal}
use Rattle.events.specs.declared.answer.EventRefusal.TheVariants as refusal
use Rattle.events.specs.declared.answer.Outcome.{Outcome}
use Rattle.protocol.specs.Ledger.{Limits, Ledger, begin_work, Wait, decision, newer_life, retired}
use Rattle.protocol.specs.World.{World}
use Rattle.protocol.specs.Replay.{Event, Deliver, RestartNode, Farm, Turn, step, scheduled}
use Rattle.protocol.specs.Meaning.{takes_slot, instance_of, IsBase, IsElsewhere}
use Rattle.protocol.specs.Reasons.{IsThere}
use Rattle.protocol.specs.Follows.{IsFarm, Shows}

-- ---- what an event leaves

-- a refused event leaves the farm as it was. But after a save that failed the coordinator is down, with what its record
-- holds then; and a node whose greatest life is over is down for good
abbrev pub RefusedLeaves : Farm → Event → EventRefusal → Farm → Type 0
RefusedLeaves farm event reason after = (after ≡ farm)
    ⊎ (((reason ≡ refusal.Coord coord_refusal.SaveFault)
    × (after ≡ record farm { saved = after.saved; down = true; armed = None }))
    ⊎ ((reason ≡ refusal.Node node_refusal.LivesSpent) × ((node : NodeId) × (event ≡ RestartNode node)
    × (after ≡ record farm { nodes = put node.0 (record (farm.nodes node.0) { spent = true }) farm.nodes }))))

pub record KeepsTheFarm (farm : Farm) (event : Event) (turn : Turn) : Type 0 where
  -- no event changes how many nodes there are
  pub size : turn.farm.size ≡ farm.size
  pub refused : (reason : EventRefusal) → turn.outcome ≡ Err reason → RefusedLeaves farm event reason turn.farm

-- of any farm, also one that no schedule leads to
abbrev pub EveryEventKeepsTheFarm : Type 0
EveryEventKeepsTheFarm = (sha : List ℕ → Digest) (limits : Limits) (farm : Farm) (event : Event)
    → KeepsTheFarm farm event (step sha limits farm event)

-- ---- whom a message reaches

-- the event is answered so, sends these messages, and changes nothing else of what the coordinator has
pub record AnswersBy (farm : Farm) (turn : Turn) (outcome : Outcome) (sends : List Message) : Type 0 where
  pub answer : turn.outcome ≡ Ok outcome
  pub ledger : turn.farm.ledger ≡ farm.ledger
  pub saved : turn.farm.saved ≡ farm.saved
  pub pool : turn.farm.pool ≡ farm.pool ++ sends

module _ (sha : List ℕ → Digest) (limits : Limits) where
  -- of a message that is delivered, in any farm
  pub record Reaches (farm : Farm) (number : ℕ) : Type 0 where
    -- while the coordinator is up a message of a retired node is answered NodeRetired, and does nothing
    pub retired : (saying : ToCoord) → nth farm.pool number ≡ Some (Said saying) → farm.down ≡ false
        → farm.ledger.gone saying.node.0 ≡ true
        → AnswersBy farm (step sha limits farm (Deliver number))
        (record { note = note.Coord coord.NodeRetired; first = 0; sent = 0 }) []
    -- a Fetch reaches the node that it names, which sends the content to who fetches it
    pub fetch : (fetch : Fetch) (content : List ℕ) → nth farm.pool number ≡ Some (Fetches fetch)
        → IsThere farm fetch.node → (farm.nodes fetch.node.0).spent ≡ false
        → (farm.nodes fetch.node.0).store fetch.digest ≡ Some content
        → AnswersBy farm (step sha limits farm (Deliver number))
        (record { note = note.Node node_note.SentBlob; first = length farm.pool + 1; sent = 1 })
        (Blob fetch.from content ∷ [])
    -- a Blob reaches the node that it names, which stores the content where it is the base of a grant
    pub blob : (node : NodeId) (content : List ℕ) → nth farm.pool number ≡ Some (Blob node content)
        → IsThere farm node → (farm.nodes node.0).spent ≡ false
        → (farm.nodes node.0).store (sha content) ≡ None → IsBase (farm.nodes node.0) (sha content)
        → ((step sha limits farm (Deliver number)).farm.nodes node.0).store (sha content) ≡ Some content

abbrev pub EveryMessageReaches : Type 0
EveryMessageReaches = (sha : List ℕ → Digest) (limits : Limits) (farm : Farm) (number : ℕ)
    → Reaches sha limits farm number

-- a message of no other node than a retired one is answered NodeRetired
abbrev pub OnlyTheRetiredAreToldSo : Type 0
OnlyTheRetiredAreToldSo = (sha : List ℕ → Digest) (limits : Limits) → IsFarm sha limits
    → (size : ℕ) (events : List Event) (number : ℕ) (saying : ToCoord) (outcome : Outcome) →
    let farm : Farm = scheduled sha limits size events in
    nth farm.pool number ≡ Some (Said saying)
    → (step sha limits farm (Deliver number)).outcome ≡ Ok outcome
    → outcome.note ≡ note.Coord coord.NodeRetired
    → farm.ledger.gone saying.node.0 ≡ true

-- ---- what a parked ask waits for

-- the ask takes the only slot of a folder, and that slot is leased
abbrev pub WaitsForSlot : Machine → Parked → Type 0
WaitsForSlot machine parked = (want : Want) × In want parked.wants
    × (takes_slot parked.tenure want.folder.mode ≡ true) × (want.folder.mode ≢ Private)
    × Leased machine (instance_of want.folder 0)

-- a parked ask is held up by another node that is the old home, or by a leased slot. So once neither is there an event
-- has granted it, denied it or dropped it (`Carried.waits`)
abbrev pub EveryParkedAskIsHeldUp : Type 0
EveryParkedAskIsHeldUp = (sha : List ℕ → Digest) (limits : Limits) → IsFarm sha limits
    → (size : ℕ) (events : List Event) (world : World) → Shows sha world (scheduled sha limits size events)
    → (parked : Parked) → In parked world.machine.parked
    → IsElsewhere world.machine parked ⊎ WaitsForSlot world.machine parked

-- ---- the old home

module _ (limits : Limits) where
  -- of any ledger whose old home is this node, whether or not a schedule leads to it: none does, since a farm begins
  -- without an old home
  pub record HeedsTheOldHome (ledger : Ledger) (home : NodeId) : Type 0 where
    -- another node's ask for a tenure waits
    pub others_wait : (parked : Parked) → parked.tenure ≡ true → parked.node.0 ≢ home.0
        → decision limits ledger parked ≡ Wait
    -- its own, and each ask for a lease, is decided on as if there were none
    pub own : (parked : Parked) → (parked.node.0 ≡ home.0) ⊎ (parked.tenure ≡ false)
        → decision limits ledger parked ≡ decision limits (record ledger { old_home = None }) parked
    -- a newer life of it leaves no old home, one of another node leaves it
    pub leaves : (node : NodeId) (life : Life) → (newer_life limits node life (begin_work ledger)).ledger.old_home
        ≡ (if node.0 == home.0 then None else Some home)
    -- it can't be retired
    pub stays : ledger.gone home.0 ≡ false → retired limits home (begin_work ledger) ≡ Err coord_refusal.TenureHeld

abbrev pub TheOldHomeIsHeeded : Type 0
TheOldHomeIsHeeded = (limits : Limits) (ledger : Ledger) (home : NodeId) → ledger.old_home ≡ Some home
    → HeedsTheOldHome limits ledger home
