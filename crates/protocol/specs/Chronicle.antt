-- What is so of every schedule (docs/PROOFS.md, "The headline").
use Rattle.std.specs.Prelude.{◌≡◌, ◌≢◌, Bool, ℕ, ◌+◌, ◌<◌, ◌≤◌, ◌⊎◌, nat_lt, false, true, slice_get, List, [], ◌∷◌, ◌++◌, Option, Some, None, ⊤, Result, Ok, Err}
use Rattle.farm_base.specs.Kinds.{is_tenure}
use Rattle.protocol.specs.Lists.{In, IsFrontOf, nth}
use Rattle.protocol.specs.Names.{Slot, IsInstance, Shared, Private, FolderName, NodeId, Life, Ask, Ticket, Digest, Want}
use Rattle.protocol.specs.Machine.{Grant, GrantedSlot, Confirmed, LineVersion, Message, Said, Told, ToCoord, Parked, Machine, Live, Has, acquire}
use Rattle.farm_base.specs.declared.message.Request.TheVariants.{Acquire}
use Rattle.farm_base.specs.declared.message.FromCoord.TheVariants as told
use Rattle.farm_base.specs.declared.message.Why.TheVariants as why
use Rattle.events.specs.declared.answer.CoordNote.{CoordNote}
use Rattle.events.specs.declared.answer.CoordNote.TheVariants as coord
use Rattle.events.specs.declared.answer.CoordRefusal.TheVariants as coord_refusal
use Rattle.events.specs.declared.answer.NodeRefusal.TheVariants as node_refusal
use Rattle.events.specs.declared.answer.EventRefusal.{EventRefusal}
use Rattle.events.specs.declared.answer.EventRefusal.TheVariants as refusal
use Rattle.events.specs.declared.answer.EventNote.TheVariants as note
use Rattle.events.specs.declared.answer.Kept.{Kept}
use Rattle.events.specs.declared.answer.Kept.TheVariants.{Old, New}
use Rattle.events.specs.declared.answer.Outcome.{Outcome}
use Rattle.protocol.specs.Ledger.{Limits, Lease, is_saved, Saved, saves, Work, begin_work, grant_of, lease_for, handled}
use Rattle.protocol.specs.World.{World, Moves, start}
use Rattle.protocol.specs.Safe.{HoldsContent, Rising, Safe, SafeSince}
use Rattle.protocol.specs.Replay.{Event, Deliver, Begin, Withdraw, Retire, RestartNode, RestartCoordinator, FailSave, Farm, Turn, step, run, opening, scheduled}
use Rattle.protocol.specs.Meaning.{adds, StopsAt, IsElsewhere, AreFree, AllTaken, CouldBeGranted, IsHeldUp, IsOf, Means}
use Rattle.protocol.specs.Reasons.{decision_at, Fair}
use Rattle.protocol.specs.Follows.{IsFarm, Shows, NoneReady, after_life, MayBeGranted}

-- the slot is for the want: of its folder, writable as it is wanted, one of the instances of a PRIVATE folder or the
-- only slot of another
abbrev pub IsSlotFor : Want → GrantedSlot → Type 0
IsSlotFor want granted = (granted.slot.folder ≡ want.folder) × (granted.writable ≡ want.writable)
    × IsInstance want.folder.mode granted.slot.instance

-- one slot for each want that isn't SHARED, in the order of the wants, and no other slot
pub data OneForEach : List Want → List GrantedSlot → Type 0 where
  No_wants : OneForEach [] []
  Shared_want : (want : Want) (wants : List Want) (slots : List GrantedSlot) → want.folder.mode ≡ Shared
      → OneForEach wants slots → OneForEach (want ∷ wants) slots
  Other_want : (want : Want) (wants : List Want) (granted : GrantedSlot) (slots : List GrantedSlot)
      → want.folder.mode ≢ Shared → IsSlotFor want granted → OneForEach wants slots
      → OneForEach (want ∷ wants) (granted ∷ slots)

-- a tenure has the slot of the one SHARED folder that it wants
abbrev pub TenureSlot : List Want → List GrantedSlot → Type 0
TenureSlot wants slots = (want : Want) × (granted : GrantedSlot) × (wants ≡ want ∷ []) × (slots ≡ granted ∷ [])
    × (want.folder.mode ≡ Shared) × IsSlotFor want granted

-- the slots of a Grant are those that its ask wanted
abbrev pub SlotsWanted : Bool → List Want → List GrantedSlot → Type 0
SlotsWanted true wants slots = TenureSlot wants slots
SlotsWanted false wants slots = OneForEach wants slots

-- a Grant with this ticket was sent
abbrev pub SentUnder : List Message → Ticket → Grant → Type 0
SentUnder pool ticket grant = In (Told (told.Granted grant)) pool × (grant.ticket ≡ ticket)

-- the grants of two tickets, as they were sent, are not of one tenure
abbrev pub OfTwoTenures : List Message → Ticket → Ticket → Type 0
OfTwoTenures pool ticket ticket' = (grant grant' : Grant) (slot : Slot) → SentUnder pool ticket grant
    → SentUnder pool ticket' grant' → Has grant slot → Has grant' slot → slot.folder.mode ≡ Shared → ⊥

-- and the ask that it answers wants the folder
abbrev pub WantedUnder : List Message → Ticket → FolderName → Type 0
WantedUnder pool ticket folder = (grant : Grant) × (wants : List Want) × (want : Want) × SentUnder pool ticket grant
    × In (acquire grant.node grant.life grant.ask wants (is_tenure grant.kind)) pool × In want wants
    × (want.folder ≡ folder)

-- two executions, on these nodes under these tickets, may be at once: they have no instance of a PRIVATE folder in
-- common, and where both want one SHARED folder they are on one node
pub record MayBeAtOnce (pool : List Message) (node node' : NodeId) (ticket ticket' : Ticket) : Type 0 where
  pub private : (grant grant' : Grant) (slot : Slot) → SentUnder pool ticket grant → SentUnder pool ticket' grant'
      → Has grant slot → Has grant' slot → slot.folder.mode ≡ Private → ⊥
  pub shared : (folder : FolderName) → folder.mode ≡ Shared → WantedUnder pool ticket folder
      → WantedUnder pool ticket' folder → node ≡ node'

-- the farm with no failure armed
abbrev pub unarmed : Farm → Farm
unarmed farm = record farm { armed = None }

-- a message of this life ends no lease and clears no old home
abbrev pub EndsNothing : Machine → NodeId → Life → Type 0
EndsNothing machine node life = (machine.lives node.0 ≡ life.0)
    ⊎ ((machine.lives node.0 < life.0)
    × ((grant : Grant) → Live machine grant → grant.node ≡ node → grant.life.0 < life.0 → ⊥)
    × (machine.old_home ≢ Some node))

-- no live grant and no parked ask is this ask's
abbrev pub IsNew : Machine → Parked → Type 0
IsNew machine parked = ((grant : Grant) → Live machine grant → IsOf parked.node parked.life parked.ask grant → ⊥)
    × ((other : Parked) → In other machine.parked → (other.node ≡ parked.node) × (other.life ≡ parked.life)
    × (other.ask ≡ parked.ask) → ⊥)

module _ (limits : Limits) where
  -- what the record holds after a save that failed: what it held before, or what was to be saved
  abbrev pub HoldsAfter : Farm → Event → Option Kept → Saved → Type 0
  HoldsAfter farm event None saved = ⊥
  HoldsAfter farm event (Some Old) saved = saved ≡ farm.saved
  HoldsAfter farm event (Some New) saved = (work : Work) × (decision_at limits farm event ≡ Some (Ok work))
      × (saved ≡ saves work.ledger)

  -- a save that failed brought the coordinator down, with the record that the armed failure leaves, and no failure is
  -- armed now
  pub record IsFailed (farm : Farm) (event : Event) (after : Farm) : Type 0 where
    pub down : after.down ≡ true
    pub saved : HoldsAfter farm event farm.armed after.saved
    pub armed : after.armed ≡ None
    pub ledger : after.ledger ≡ farm.ledger

  -- of an event that arms no failure
  pub record LeavesArmed (farm : Farm) (event : Event) (turn : Turn) : Type 0 where
    pub failed : turn.outcome ≡ Err (refusal.Coord coord_refusal.SaveFault) → IsFailed farm event turn.farm
    pub stays : turn.outcome ≢ Err (refusal.Coord coord_refusal.SaveFault) → turn.farm.armed ≡ farm.armed

  -- how an ask of the greatest life, or of a newer one that ends nothing, is answered, of the machine before
  pub record AsksAreAnswered (machine : Machine) (asked : Parked) (answer : CoordNote) : Type 0 where
    -- one that is leased is granted again
    pub before : machine.lives asked.node.0 ≡ asked.life.0 → (grant : Grant) → Live machine grant
        → IsOf asked.node asked.life asked.ask grant → (held : Grant) × Live machine held
        × IsOf asked.node asked.life asked.ask held × (answer ≡ coord.GrantedBefore held)
    -- one that could be granted is
    pub granted : EndsNothing machine asked.node asked.life
        → ((grant : Grant) → Live machine grant → IsOf asked.node asked.life asked.ask grant → ⊥)
        → CouldBeGranted limits machine asked → (grant : Grant) × (answer ≡ coord.Granted grant)
    -- and no other
    pub could : EndsNothing machine asked.node asked.life
        → ((grant : Grant) → Live machine grant → IsOf asked.node asked.life asked.ask grant → ⊥)
        → (grant : Grant) → answer ≡ coord.Granted grant → CouldBeGranted limits machine asked
    -- one that must wait for another node waits
    pub elsewhere : EndsNothing machine asked.node asked.life
        → ((grant : Grant) → Live machine grant → IsOf asked.node asked.life asked.ask grant → ⊥)
        → IsElsewhere machine asked → answer ≡ coord.Parked
    -- one that isn't parked and wants a PRIVATE folder with no instance left is denied
    pub instances : EndsNothing machine asked.node asked.life → IsNew machine asked → asked.tenure ≡ false
        → (want : Want) → In want asked.wants → want.folder.mode ≡ Private
        → AllTaken limits.instances machine want.folder → answer ≡ coord.Denied why.InstancesSpent
    -- so is one whose slots are free where no ticket is left
    pub tickets : EndsNothing machine asked.node asked.life → IsNew machine asked → (IsElsewhere machine asked → ⊥)
        → AreFree limits machine asked → limits.greatest ≤ machine.last → answer ≡ coord.Denied why.TicketsSpent
    -- one that is held up waits
    pub parked : EndsNothing machine asked.node asked.life
        → ((grant : Grant) → Live machine grant → IsOf asked.node asked.life asked.ask grant → ⊥)
        → IsHeldUp limits machine asked → answer ≡ coord.Parked

module _ (sha : List ℕ → Digest) (limits : Limits) where
  -- what the farm answers to the event
  abbrev answer : Farm → Event → Result Outcome EventRefusal
  answer farm event = (step sha limits farm event).outcome

  -- the farm after the event
  abbrev after : Farm → Event → Farm
  after farm event = (step sha limits farm event).farm

  -- the farm after all of the events, in their order
  abbrev after_all : Farm → List Event → Farm
  after_all farm events = run sha limits events farm

  -- from here on a world after each event: led to by moves from the one before, meant by the event, fair, shown by the
  -- farm, safe, and safe since each earlier one
  abbrev pub ChronicleFrom : List Event → Farm → World → List World → Type 0
  ChronicleFrom [] farm world earlier = ⊤
  ChronicleFrom (event ∷ rest) farm world earlier = (later : World) × Moves sha world later
      × Means sha limits farm.size world event (answer farm event) later
      × Fair limits world farm event (answer farm event)
      × Shows sha later (after farm event)
      × Safe sha later × ((past : World) → In past (world ∷ earlier) → SafeSince sha past later)
      × ChronicleFrom rest (after farm event) later (world ∷ earlier)

  abbrev pub Chronicle : List Event → Farm → World → Type 0
  Chronicle events farm world = ChronicleFrom events farm world []

  -- from this farm on no event commits under the ticket, and it is on no line
  pub record StaysOut (farm : Farm) (ticket : Ticket) : Type 0 where
    pub uncommitted : (late : List Event) (event : Event) (outcome : Outcome)
        → answer (after_all farm late) event ≡ Ok outcome
        → outcome.note ≡ note.Coord (coord.Committed ticket) → ⊥
    pub off_line : (late : List Event) (slot : Slot) (version : LineVersion)
        → In version ((after_all farm late).ledger.line slot) → version.ticket ≡ ticket → ⊥

  -- no event that is accepted ends the execution under the ticket on the node
  abbrev pub GoesOn : NodeId → Ticket → List Event → Farm → Type 0
  GoesOn node ticket [] farm = ⊤
  GoesOn node ticket (event ∷ rest) farm =
      ((grant : Grant) (outcome : Outcome)
      → answer farm event ≡ Ok outcome
      → grant.ticket ≡ ticket
      → StopsAt event node grant
      → ⊥)
      × GoesOn node ticket rest (after farm event)

  -- the answer to one more event names the version for the slot
  abbrev pub NamesVersion : Farm → Event → Slot → LineVersion → Type 0
  NamesVersion farm event slot version = (outcome : Outcome)
      × (answer farm event ≡ Ok outcome)
      × In version (adds limits.empty farm.pool event outcome.note slot)

  -- or its save failed, and its answer would have named it without that failure: the record kept it
  abbrev pub Writes : Farm → Event → Slot → LineVersion → Type 0
  Writes farm event slot version = NamesVersion farm event slot version
      ⊎ ((answer farm event ≡ Err (refusal.Coord coord_refusal.SaveFault))
      × NamesVersion (unarmed farm) event slot version)

  -- of a farm that a schedule led to, and one more event: what holds beside the headline's promises
  pub record AlsoHolds (farm : Farm) : Type 0 where
    -- so it is for each lease of a node that is retired
    pub retired : (node : NodeId) (outcome : Outcome)
        → answer farm (Retire node) ≡ Ok outcome
        → (lease : Lease) → In lease farm.ledger.live → lease.node ≡ node
        → StaysOut (after farm (Retire node)) lease.ticket
    -- for each lease of an older life once a newer one is heard of
    pub older : (number : ℕ) (saying : ToCoord) (outcome : Outcome) → nth farm.pool number ≡ Some (Said saying)
        → answer farm (Deliver number) ≡ Ok outcome
        → farm.ledger.gone saying.node.0 ≡ false
        → farm.ledger.lives saying.node.0 < saying.life.0
        → (lease : Lease) → In lease farm.ledger.live → lease.node ≡ saying.node → lease.life.0 < saying.life.0
        → StaysOut (after farm (Deliver number)) lease.ticket
    -- and for each lease that the record doesn't have, once a coordinator that was up restarts
    pub restarted : farm.down ≡ false → (lease : Lease) → In lease farm.ledger.live → is_saved lease ≡ false
        → StaysOut (after farm RestartCoordinator) lease.ticket
    -- what was ever fenced is on no line
    pub fenced : (node : NodeId) (life : Life) (ticket : Ticket) → In (Told (told.Fenced node life ticket)) farm.pool
        → (late : List Event) (slot : Slot) (version : LineVersion)
        → In version ((after_all farm late).ledger.line slot) → version.ticket ≡ ticket → ⊥
    -- an accepted event makes a line longer by exactly what its answer names
    pub answered : farm.down ≡ false → (event : Event) (outcome : Outcome)
        → answer farm event ≡ Ok outcome
        → (slot : Slot)
        → (after farm event).ledger.line slot
        ≡ farm.ledger.line slot ++ adds limits.empty farm.pool event outcome.note slot
    -- from an accepted begin on, until an event that ends it, none begins under a tenure that it has
    pub tenures : (node node' : NodeId) (ticket ticket' : Ticket) (late : List Event) (outcome outcome' : Outcome)
        → answer farm (Begin node ticket) ≡ Ok outcome
        → GoesOn node ticket late (after farm (Begin node ticket))
        → let later : Farm = after_all (after farm (Begin node ticket)) late in
        answer later (Begin node' ticket') ≡ Ok outcome'
        → OfTwoTenures later.pool ticket ticket'
    -- each Grant ever sent answers an ask that was sent, and has the slots that it wanted
    pub wanted : (grant : Grant) → In (Told (told.Granted grant)) farm.pool → (wants : List Want)
        × In (acquire grant.node grant.life grant.ask wants (is_tenure grant.kind)) farm.pool
        × SlotsWanted (is_tenure grant.kind) wants grant.slots
    -- with a PRIVATE folder's instance that the farm has
    pub instance : (grant : Grant) (granted : GrantedSlot) → In (Told (told.Granted grant)) farm.pool
        → In granted grant.slots → granted.slot.folder.mode ≡ Private → granted.slot.instance ≤ limits.instances
    -- what is asked under one name is one
    pub one_ask : (node : NodeId) (life : Life) (ask : Ask) (wants wants' : List Want) (tenure tenure' : Bool)
        → In (acquire node life ask wants tenure) farm.pool → In (acquire node life ask wants' tenure') farm.pool
        → (wants ≡ wants') × (tenure ≡ tenure')
    -- a node whose last life is over is down for good
    pub spent : (node : NodeId)
        → answer farm (RestartNode node) ≡ Err (refusal.Node node_refusal.LivesSpent)
        → ((after farm (RestartNode node)).nodes node.0).spent ≡ true
    -- a node that is down for good is in its greatest life
    pub greatest : (node : NodeId) → (farm.nodes node.0).spent ≡ true → limits.greatest ≤ (farm.nodes node.0).life.0
    -- a failure is armed by its event alone, and stays armed until a save fails so
    pub arms : (kept : Kept) → after farm (FailSave kept) ≡ record farm { armed = Some kept }
    pub armed : (event : Event) → ((kept : Kept) → event ≢ FailSave kept)
        → LeavesArmed limits farm event (step sha limits farm event)

  -- the headline's four promises: one content for a version, one line that only grows, nothing that was withdrawn counts,
  -- and no PRIVATE instance is in use by two executions
  pub record Headline (farm : Farm) : Type 0 where
    -- two nodes hold one content for a version, then or later, or the two contents are a collision
    pub contents : (late : List Event) (node node' : NodeId) (slot : Slot) (number : ℕ) (content content' : List ℕ)
        → HoldsContent (farm.nodes node.0) slot number content
        → HoldsContent ((after_all farm late).nodes node'.0) slot number content'
        → (content ≡ content') ⊎ ((content ≢ content') × (sha content ≡ sha content'))
    -- each slot's versions form one line that only grows, with rising tickets
    pub rising : (slot : Slot) → Rising (farm.ledger.line slot)
    pub grows : (late : List Event) (slot : Slot)
        → IsFrontOf (farm.ledger.line slot) ((after_all farm late).ledger.line slot)
    -- after an accepted withdrawal nothing commits under the ticket, and it is on no line
    pub withdrawn : (ticket : Ticket) (outcome : Outcome)
        → answer farm (Withdraw ticket) ≡ Ok outcome
        → StaysOut (after farm (Withdraw ticket)) ticket
    -- from an accepted begin on, until an event that ends it, each that begins may be at once with it: none has the same
    -- instance of a PRIVATE folder
    pub apart : (node node' : NodeId) (ticket ticket' : Ticket) (late : List Event) (outcome outcome' : Outcome)
        → answer farm (Begin node ticket) ≡ Ok outcome
        → GoesOn node ticket late (after farm (Begin node ticket))
        → let later : Farm = after_all (after farm (Begin node ticket)) late in
        answer later (Begin node' ticket') ≡ Ok outcome'
        → MayBeAtOnce later.pool node node' ticket ticket'
    pub also : AlsoHolds farm

abbrev pub EveryScheduleHasAChronicle : Type 0
EveryScheduleHasAChronicle = (sha : List ℕ → Digest) (limits : Limits) → IsFarm sha limits
    → (size : ℕ) (events : List Event) → Chronicle sha limits events (opening sha size) (start sha)

-- each version that ever stands on a line is of such an event. As lines only grow at their end, they stand in the
-- order of these events
abbrev pub EveryVersionIsAnswered : Type 0
EveryVersionIsAnswered = (sha : List ℕ → Digest) (limits : Limits) → IsFarm sha limits
    → (size : ℕ) (events : List Event) (slot : Slot) (version : LineVersion)
    → In version ((scheduled sha limits size events).ledger.line slot)
    → (early late : List Event) × (event : Event) × (events ≡ early ++ event ∷ late)
    × Writes sha limits (scheduled sha limits size early) event slot version

abbrev pub EveryScheduleMeans : Type 0
EveryScheduleMeans = (sha : List ℕ → Digest) (limits : Limits) → IsFarm sha limits → (size : ℕ) (events : List Event)
    → Headline sha limits (scheduled sha limits size events)

abbrev pub NoParkedAskIsReady : Type 0
NoParkedAskIsReady = (sha : List ℕ → Digest) (limits : Limits) (size : ℕ) (events : List Event)
    → NoneReady limits (scheduled sha limits size events).ledger

-- an Acquire that was sent, of a node that isn't retired, of no older life, that the rules let be granted, is granted
-- where it is delivered
abbrev pub FittingMessageIsGranted : Type 0
FittingMessageIsGranted = (sha : List ℕ → Digest) (limits : Limits) → IsFarm sha limits
    → (size : ℕ) (events : List Event) (number : ℕ) (parked : Parked) →
    let farm : Farm = scheduled sha limits size events in
    let ledger = farm.ledger in
    let saying : ToCoord = record {
      node = parked.node;
      life = parked.life;
      request = Acquire parked.ask parked.wants parked.tenure;
    } in
    let work : Work = after_life limits parked.node parked.life (begin_work ledger) in
    let grant : Grant = grant_of limits.empty work.ledger.line (lease_for limits work.ledger parked) in
    nth farm.pool number ≡ Some (Said saying)
    → ledger.gone parked.node.0 ≡ false
    → nat_lt parked.life.0 (ledger.lives parked.node.0) ≡ false
    → MayBeGranted limits work.ledger parked
    → ((handled limits saying (begin_work ledger)).note ≡ coord.Granted grant)
    × In (told.Granted grant) (handled limits saying (begin_work ledger)).sends

-- in no world that a farm of a run may be in could a parked ask be granted
abbrev pub NoParkedAskCouldBeGranted : Type 0
NoParkedAskCouldBeGranted = (sha : List ℕ → Digest) (limits : Limits) → IsFarm sha limits
    → (size : ℕ) (events : List Event) (world : World) → Shows sha world (scheduled sha limits size events)
    → (parked : Parked) → In parked world.machine.parked → CouldBeGranted limits world.machine parked → ⊥

-- an Acquire of a node that isn't retired is answered so
abbrev pub EveryAskIsAnswered : Type 0
EveryAskIsAnswered = (sha : List ℕ → Digest) (limits : Limits) → IsFarm sha limits
    → (size : ℕ) (events : List Event) (world : World) → Moves sha (start sha) world
    → let farm : Farm = scheduled sha limits size events in
    Shows sha world farm → (parked : Parked)
    → In (acquire parked.node parked.life parked.ask parked.wants parked.tenure) world.pool
    → world.machine.gone parked.node.0 ≡ false
    → let saying : ToCoord = record {
      node = parked.node;
      life = parked.life;
      request = Acquire parked.ask parked.wants parked.tenure;
    } in
    AsksAreAnswered limits world.machine parked (handled limits saying (begin_work farm.ledger)).note

-- while the coordinator is up the record is that of its ledger; after a failed save it is that of a ledger of the
-- machine that the save kept
pub record IsSavedFarm (sha : List ℕ → Digest) (farm : Farm) : Type 0 where
  pub up : farm.down ≡ false → farm.saved ≡ saves farm.ledger
  pub either : (world : World) × Moves sha (start sha) world × Shows sha world farm

abbrev pub EveryFarmIsSaved : Type 0
EveryFarmIsSaved = (sha : List ℕ → Digest) (limits : Limits) → IsFarm sha limits → (size : ℕ) (events : List Event)
    → IsSavedFarm sha (scheduled sha limits size events)

-- a restart can't take back what was sent: no ticket is above the record's ceiling, and each version that a
-- confirmation names stands on the record's line
pub record Covered (farm : Farm) : Type 0 where
  pub tickets : (grant : Grant) → In (Told (told.Granted grant)) farm.pool → grant.ticket.0 ≤ farm.saved.ceiling
  pub versions : (node : NodeId) (life : Life) (ticket : Ticket) (versions : List Confirmed) (version : Confirmed)
      → In (Told (told.Committed node life ticket versions)) farm.pool → In version versions
      → (index : ℕ) × (version.number ≡ index + 1)
      × (slice_get (farm.saved.line version.slot) index ≡ Some (record { ticket = ticket; digest = version.digest }))

abbrev pub EveryRecordCovers : Type 0
EveryRecordCovers = (sha : List ℕ → Digest) (limits : Limits) → IsFarm sha limits → (size : ℕ) (events : List Event)
    → Covered (scheduled sha limits size events)

-- a restart reads the record and nothing else
abbrev pub RestartReadsTheRecord : Type 0
RestartReadsTheRecord = (sha : List ℕ → Digest) (limits : Limits) (farm other : Farm) → farm.saved ≡ other.saved
    → (step sha limits farm RestartCoordinator).farm.ledger ≡ (step sha limits other RestartCoordinator).farm.ledger
