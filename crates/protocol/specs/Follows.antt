-- The ledger agrees with a machine that forgets nothing, and a farm's state with a world.
use Rattle.std.specs.Prelude.{◌≡◌, ◌≢◌, ℕ, ◌+◌, ◌<◌, ◌≤◌, nat_lt, if◌then◌else◌, true, false, List, [], ◌∷◌, ◌++◌, ◌⊎◌, map, Option, Some, None, ⊤, Result, Ok, Err}
use Rattle.farm_base.specs.Kinds.{has_shared, is_tenure}
use Rattle.protocol.specs.Lists.{In}
use Rattle.farm_base.specs.declared.message.Request.TheVariants.{Acquire, Commit, Release}
use Rattle.farm_base.specs.declared.message.FromCoord.TheVariants as told
use Rattle.events.specs.declared.answer.CoordNote.TheVariants as note
use Rattle.events.specs.declared.answer.CoordRefusal.{CoordRefusal}
use Rattle.protocol.specs.Names.{Slot, NodeId, Life, Ticket, Digest, leased_wants}
use Rattle.protocol.specs.Machine.{Grant, Granted, News, Ending, written, slots_of, Message, Said, acquire, ToCoord, FromCoord, Parked, Machine, Live, Retired, line, Step, Says}
use Rattle.protocol.specs.Ledger.{Limits, Ledger, Lease, Work, begin_work, is_of, lease_of, is_parked, is_free, is_leased, all_taken, busy, elsewhere, decision, Give, grant_of, lease_for, newer_life, handled, withdrawn, retired, pruned, nudged, reread, saves}
use Rattle.protocol.specs.World.{World, Moves, start}
use Rattle.protocol.specs.Safe.{Safe, SafeSince}
use Rattle.protocol.specs.Replay.{Event, Farm, Turn, step, scheduled}
use Rattle.protocol.specs.Meaning.{MessageEnds, WithdrawEnds, RetireEnds, RestartEnds, NoEnds, Meant, Means}
use Rattle.protocol.specs.Reasons.{Fair}

-- the lease of a grant: what is kept of it
abbrev pub lease_from : Grant → Lease
lease_from grant = record {
  ticket = grant.ticket;
  node = grant.node;
  life = grant.life;
  ask = grant.ask;
  shared = has_shared grant.kind;
  tenure = is_tenure grant.kind;
  slots = map (λ granted. (granted.slot, granted.writable)) grant.slots;
}

-- no lease is this ask's
abbrev pub NoLease : List Lease → Parked → Type 0
NoLease live parked = (lease : Lease) → In lease live → is_of parked.node parked.life parked.ask lease ≡ false

-- the parked asks are of different asks, and none has a lease
abbrev pub Waits : List Lease → List Parked → Type 0
Waits live [] = ⊤
Waits live (parked ∷ queue) = NoLease live parked × (is_parked queue parked.node parked.life parked.ask ≡ false)
    × Waits live queue

-- the ledger keeps exactly what is still of use of the machine, these messages having been sent
pub record Agrees (empty : Digest) (pool : List Message) (machine : Machine) (ledger : Ledger) : Type 0 where
  -- the leases are exactly the live grants
  pub live_made : (lease : Lease) → In lease ledger.live
      → (grant : Grant) × Live machine grant × (lease_from grant ≡ lease)
  pub live_kept : (grant : Grant) → Live machine grant → In (lease_from grant) ledger.live
  -- the retired slots are exactly the machine's
  pub retired_made : (slot : Slot) → ledger.retired slot ≡ true → Retired machine slot
  pub retired_kept : (slot : Slot) → Retired machine slot → ledger.retired slot ≡ true
  pub lines : (slot : Slot) → ledger.line slot ≡ line empty machine slot
  pub last : ledger.last ≡ machine.last
  -- tickets are saved in blocks of 64
  pub ceiling : ledger.last ≤ ledger.ceiling
  pub block : ledger.ceiling ≤ ledger.last + 64
  pub old_home : ledger.old_home ≡ machine.old_home
  pub gone : ledger.gone ≡ machine.gone
  pub lives : ledger.lives ≡ machine.lives
  pub parked : ledger.parked ≡ machine.parked
  -- each parked ask was sent by a node that isn't retired, in a life that was seen
  pub asked : (parked : Parked) → In parked ledger.parked
      → In (acquire parked.node parked.life parked.ask parked.wants parked.tenure) pool
      × (ledger.gone parked.node.0 ≡ false) × (parked.life.0 ≤ ledger.lives parked.node.0)
  -- so was each lease
  pub seen : (lease : Lease) → In lease ledger.live → lease.life.0 ≤ ledger.lives lease.node.0
  pub waits : Waits ledger.live ledger.parked

-- what the coordinator does at one event: steps, and what it says, in order
pub data Works (empty : Digest) (pool : List Message) (machine : Machine) : Machine → List FromCoord → Type 0 where
  Begins_work : Works empty pool machine machine []
  Goes_on : (now next : Machine) (sends : List FromCoord) → Works empty pool machine now sends
      → Step empty pool now next → Works empty pool machine next sends
  Speaks : (now : Machine) (sends : List FromCoord) (telling : FromCoord) → Works empty pool machine now sends
      → Says empty pool now telling → Works empty pool machine now (sends ++ telling ∷ [])

-- the machine may do what the work did, and `is` holds of how tickets ended then
pub record Follows (empty : Digest) (pool : List Message) (before : Machine) (is : (ℕ → Option Ending) → Type 0)
    (work : Work) : Type 0 where
  pub machine : Machine
  pub works : Works empty pool before machine work.sends
  pub ended : is machine.ending
  -- what is granted is sent
  pub granted : (grant : Grant) → In (Granted grant) machine.made
      → In (Granted grant) before.made ⊎ In (told.Granted grant) work.sends
  pub agrees : Agrees empty pool machine work.ledger

-- the record holds what the ledger saves, or after a failed save, of the machine that it kept, what a ledger of that
-- saves
abbrev pub SavedAgrees : Digest → List Message → Option Machine → Farm → Type 0
SavedAgrees empty pool None farm = (farm.down ≡ false) × (farm.saved ≡ saves farm.ledger)
SavedAgrees empty pool (Some kept) farm = (farm.down ≡ true)
    × ((ledger : Ledger) × Agrees empty pool kept ledger × (farm.saved ≡ saves ledger))

-- the limits of a farm whose contents have these digests
pub record IsFarm (sha : List ℕ → Digest) (limits : Limits) : Type 0 where
  pub empty : limits.empty ≡ sha []
  pub instances : limits.instances ≤ 4096

module _ (sha : List ℕ → Digest) where
  -- a farm's state is that of the world
  pub record Shows (world : World) (farm : Farm) : Type 0 where
    pub now : Agrees (sha []) world.pool world.machine farm.ledger
    pub saved : SavedAgrees (sha []) world.pool world.down farm
    pub pool : world.pool ≡ farm.pool
    pub nodes : (number : ℕ) → world.nodes number ≡ farm.nodes number

  -- a world that the farm is in after the events, safe
  pub record SafeAfter (farm : Farm) : Type 0 where
    pub world : World
    pub moves : Moves sha (start sha) world
    pub shows : Shows world farm
    pub safe : Safe sha world

  -- worlds that a farm is in before and after some events: the later follows from the earlier, and stays safe
  pub record SafeBetween (farm later : Farm) : Type 0 where
    pub before : SafeAfter farm
    pub after : SafeAfter later
    pub moves : Moves sha before.world after.world
    pub since : SafeSince sha before.world after.world

abbrev pub EveryScheduleIsSafe : Type 0
EveryScheduleIsSafe = (sha : List ℕ → Digest) (limits : Limits) → IsFarm sha limits → (size : ℕ) (events : List Event)
    → SafeAfter sha (scheduled sha limits size events)

abbrev pub EveryScheduleStaysSafe : Type 0
EveryScheduleStaysSafe = (sha : List ℕ → Digest) (limits : Limits) → IsFarm sha limits
    → (size : ℕ) (early late : List Event)
    → SafeBetween sha (scheduled sha limits size early) (scheduled sha limits size (early ++ late))

-- each event, from any world of a run that a farm is in, leads to a world that the farm is in then, and means what
-- its outcome says; it is refused only with a reason, and accepted only without one
abbrev pub EveryEventIsMoves : Type 0
EveryEventIsMoves = (sha : List ℕ → Digest) (limits : Limits) → IsFarm sha limits → (world : World)
    → Moves sha (start sha) world → (farm : Farm) → Shows sha world farm → (event : Event)
    → let turn : Turn = step sha limits farm event in
    (later : World) × Moves sha world later
    × Shows sha later turn.farm
    × Means sha limits farm.size world event turn.outcome later
    × Fair limits world farm event turn.outcome

-- the machine may do what an accepted call did, and it ends these
abbrev pub FollowsOk : Digest → List Message → Machine → (Grant → Ending → Type 0) → Result Work CoordRefusal → Type 0
FollowsOk empty pool machine ends (Ok work) = Follows empty pool machine (Meant machine ends work.note) work
FollowsOk empty pool machine ends (Err why) = ⊤

-- where an ask of this name is parked, it is this one
abbrev pub OnlyItself : Ledger → Parked → Type 0
OnlyItself ledger parked = (other : Parked) → In other ledger.parked → other.node ≡ parked.node
    → other.life ≡ parked.life → other.ask ≡ parked.ask → other ≡ parked

module _ (limits : Limits) where
  -- the coordinator's work at the message
  abbrev heard : Ledger → ToCoord → Work
  heard ledger saying = handled limits saying (begin_work ledger)

  -- what is asked for rightly is accepted: the withdrawal of a live grant, unless it is a tenure
  abbrev pub WithdrawIsTaken : Machine → Ledger → Type 0
  WithdrawIsTaken machine ledger = (grant : Grant) → Live machine grant → is_tenure grant.kind ≡ false
      → (work : Work) × (withdrawn limits grant.ticket (begin_work ledger) ≡ Ok work)

  -- and the Commit of a live grant, of no older life of its node, with news for exactly its writable slots
  abbrev pub CommitIsTaken : Machine → Ledger → Type 0
  CommitIsTaken machine ledger = (grant : Grant) (news : List News) → Live machine grant
      → machine.gone grant.node.0 ≡ false → machine.lives grant.node.0 ≤ grant.life.0
      → slots_of news ≡ written grant.slots → news ≢ []
      → (heard ledger (record { node = grant.node; life = grant.life; request = Commit grant.ticket news })).note
      ≡ note.Committed grant.ticket

  -- and its Release
  abbrev pub ReleaseIsTaken : Machine → Ledger → Type 0
  ReleaseIsTaken machine ledger = (grant : Grant) → Live machine grant → machine.gone grant.node.0 ≡ false
      → machine.lives grant.node.0 ≤ grant.life.0
      → (heard ledger (record { node = grant.node; life = grant.life; request = Release grant.ticket })).note
      ≡ note.Released grant.ticket

  -- whatever message comes, sent or not, it ends no grant but one of its node: one of its life, or one of an older life
  -- where its life is a newer one
  abbrev pub OnlyItsOwn : Machine → Ledger → Type 0
  OnlyItsOwn machine ledger = (saying : ToCoord) (grant : Grant) → Live machine grant
      → In (lease_from grant) (heard ledger saying).ledger.live
      ⊎ ((grant.node ≡ saying.node)
      × ((grant.life ≡ saying.life) ⊎ ((grant.life.0 < saying.life.0) × (machine.lives saying.node.0 < saying.life.0))))

  -- every decision on a ledger that agrees with the machine of a world of a run
  pub record EveryDecision (pool : List Message) (machine : Machine) (ledger : Ledger) : Type 0 where
    pub message : (saying : ToCoord) → In (Said saying) pool
        → Follows limits.empty pool machine
        (Meant machine (MessageEnds machine saying (heard ledger saying).note) (heard ledger saying).note)
        (heard ledger saying)
    pub own : OnlyItsOwn machine ledger
    pub commit_taken : CommitIsTaken machine ledger
    pub release_taken : ReleaseIsTaken machine ledger
    pub withdraw_taken : WithdrawIsTaken machine ledger
    pub withdraw : (ticket : Ticket)
        → FollowsOk limits.empty pool machine (WithdrawEnds ticket) (withdrawn limits ticket (begin_work ledger))
    pub retire : (node : NodeId)
        → FollowsOk limits.empty pool machine (RetireEnds node) (retired limits node (begin_work ledger))
    pub prune : (slot : Slot) → FollowsOk limits.empty pool machine NoEnds (pruned limits slot (begin_work ledger))
    pub nudge : Follows limits.empty pool machine (Meant machine NoEnds note.Nudged) (nudged limits (begin_work ledger))
    pub restart : Follows limits.empty pool machine (Meant machine RestartEnds note.Nothing)
        (record (begin_work ledger) { ledger = reread ledger; changed = true })

  -- the work after the step on the message's life
  abbrev pub after_life : NodeId → Life → Work → Work
  after_life node life work =
      if nat_lt (work.ledger.lives node.0) life.0 then newer_life limits node life work else work

  -- no parked ask could be granted
  abbrev pub NoneReady : Ledger → Type 0
  NoneReady ledger = (parked : Parked) → In parked ledger.parked → decision limits ledger parked ≡ Give → ⊥

  -- the rules let the ask be granted: it has no lease; another node isn't the old home of a tenure; an
  -- instance is left of each PRIVATE folder; the slot of each other folder isn't leased; a ticket is left
  pub record MayBeGranted (ledger : Ledger) (parked : Parked) : Type 0 where
    pub new : lease_of ledger.live parked.node parked.life parked.ask ≡ None
    pub here : elsewhere ledger parked ≡ false
    pub left : all_taken limits.instances (is_free ledger) (leased_wants parked.tenure parked.wants) ≡ false
    pub idle : busy (is_leased ledger) (leased_wants parked.tenure parked.wants) ≡ false
    pub ticket : nat_lt ledger.last limits.greatest ≡ true

abbrev pub EveryDecisionFollows : Type 0
EveryDecisionFollows = (sha : List ℕ → Digest) (limits : Limits) → IsFarm sha limits → (world : World)
    → Moves sha (start sha) world → (ledger : Ledger) → Agrees limits.empty world.pool world.machine ledger
    → EveryDecision limits world.pool world.machine ledger

-- an Acquire of a node that isn't retired, of no older life, that the rules let be granted, is granted in that call
abbrev pub FittingAskIsGranted : Type 0
FittingAskIsGranted = (limits : Limits) (parked : Parked) (work : Work) → NoneReady limits work.ledger
    → OnlyItself work.ledger parked → work.ledger.gone parked.node.0 ≡ false
    → nat_lt parked.life.0 (work.ledger.lives parked.node.0) ≡ false
    → let seen : Work = after_life limits parked.node parked.life work in
    let grant : Grant = grant_of limits.empty seen.ledger.line (lease_for limits seen.ledger parked) in
    let saying : ToCoord = record {
      node = parked.node;
      life = parked.life;
      request = Acquire parked.ask parked.wants parked.tenure;
    } in
    MayBeGranted limits seen.ledger parked → ((handled limits saying work).note ≡ note.Granted grant)
    × In (told.Granted grant) (handled limits saying work).sends
