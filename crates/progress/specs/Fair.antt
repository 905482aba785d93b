-- Fair runs: infinite schedules in which what is sent arrives, what is open is said again, and executions end.
use Rattle.std.specs.Prelude.{◌≡◌, ◌≢◌, ℕ, zero, suc, ◌≤◌, Bool, true, false, ◌==◌, List, [], ◌∷◌, ◌++◌, length, Some, None}
use Rattle.protocol.specs.Lists.{In, nth}
use Rattle.protocol.specs.Names.{NodeId, Ask, Ticket, Want, Digest}
use Rattle.protocol.specs.Machine.{Message}
use Rattle.protocol.specs.Ledger.{Limits, Lease}
use Rattle.protocol.specs.World.{KeptAsk, Open, Holding, Running, Finished, Over}
use Rattle.protocol.specs.Lawful.{IsEvent}
use Rattle.protocol.specs.Follows.{IsFarm}
use Rattle.protocol.specs.Replay.{Event, Deliver, Nudge, Resend, RestartCoordinator, Farm, is_node, scheduled}
use Rattle.progress.specs.Progress.{AreEvents, IsForOne, NoneIsDown, IsWaiting, is_open}

-- the first events of an infinite schedule
abbrev pub firsts : (ℕ → Event) → ℕ → List Event
firsts plan zero = []
firsts plan (suc place) = firsts plan place ++ plan place ∷ []

-- the ask has the grant of the ticket, and its execution hasn't ended
abbrev pub is_under : Ticket → KeptAsk → Bool
is_under ticket (Open wants tenure) = false
is_under ticket (Holding wants grant recalled) = grant.ticket.0 == ticket.0
is_under ticket (Running wants grant recalled) = grant.ticket.0 == ticket.0
is_under ticket (Finished wants grant news) = false
is_under ticket (Over ending) = false

module _ (sha : List ℕ → Digest) (limits : Limits) (size : ℕ) (plan : ℕ → Event) where
  -- the farm of this size after the first events of the schedule, this many
  abbrev pub farm_at : ℕ → Farm
  farm_at place = scheduled sha limits size (firsts plan place)

  -- the event happens there or later
  abbrev pub Comes : ℕ → Event → Type 0
  Comes place event = (later : ℕ) × (place ≤ later) × (plan later ≡ event)

  -- no ask of this number has the grant there
  abbrev pub IsDone : ℕ → NodeId → ℕ → Ticket → Type 0
  IsDone place who number ticket =
      (kept : KeptAsk) → nth ((farm_at place).nodes who.0).asks number ≡ Some kept → is_under ticket kept ≡ false

  -- from this place on
  pub record IsFair (start : ℕ) : Type 0 where
    pub are : (place : ℕ) → IsEvent (plan place)
    -- the coordinator is up, no failed save is ahead, and it doesn't restart
    pub up : (place : ℕ) → start ≤ place → (farm_at place).down ≡ false
    pub safe : (place : ℕ) → start ≤ place → (farm_at place).armed ≡ None
    pub stays : (place : ℕ) → start ≤ place → plan place ≢ RestartCoordinator
    -- no node that isn't retired is down for good
    pub runs : (place : ℕ) → start ≤ place → NoneIsDown (farm_at place)
    -- each message that was sent arrives
    pub arrives : (place number : ℕ) (message : Message) → start ≤ place → nth (farm_at place).pool number ≡ Some message
        → Comes place (Deliver number)
    -- the coordinator tells again what is leased, and each node what it asks for
    pub nudges : (place : ℕ) → start ≤ place → Comes place Nudge
    pub resends : (place : ℕ) (who : NodeId) → start ≤ place → is_node (farm_at place) who ≡ true → Comes place (Resend who)
    -- what was granted to a node that isn't retired is begun or given up, and each execution there ends
    pub ends : (place number : ℕ) (who : NodeId) (ticket : Ticket) (kept : KeptAsk) → start ≤ place
        → is_node (farm_at place) who ≡ true
        → (farm_at place).ledger.gone who.0 ≡ false
        → nth ((farm_at place).nodes who.0).asks number ≡ Some kept
        → is_under ticket kept ≡ true
        → (later : ℕ) × (place ≤ later) × IsDone later who number ticket

  -- the node isn't retired, and goes on in its life
  pub record LivesOn (start : ℕ) (who : NodeId) : Type 0 where
    pub stays : (place : ℕ) → start ≤ place → (farm_at place).ledger.gone who.0 ≡ false
    pub life : (place : ℕ) → start ≤ place → ((farm_at place).nodes who.0).life ≡ ((farm_at start).nodes who.0).life

  -- the ask is granted or denied there, and its node knows
  pub record IsAnsweredAt (place : ℕ) (who : NodeId) (ask : Ask) : Type 0 where
    pub kept : KeptAsk
    pub here : nth ((farm_at place).nodes who.0).asks ask.0 ≡ Some kept
    pub answered : is_open kept ≡ false

-- in each fair run each lease ends
abbrev pub EveryLeaseEnds : Type 0
EveryLeaseEnds = (sha : List ℕ → Digest) (limits : Limits) → IsFarm sha limits → (size : ℕ) (plan : ℕ → Event) (start : ℕ)
    → IsFair sha limits size plan start
    → (place : ℕ) → start ≤ place
    → (lease : Lease) → In lease (farm_at sha limits size plan place).ledger.live
    → (later : ℕ) × (place ≤ later) × (In lease (farm_at sha limits size plan later).ledger.live → ⊥)

-- and each open ask that waits for at most one folder, for a tenure too, is answered, of a node that goes on in its life.
-- One for two LOCKED folders can be passed over for ever, since now the one and now the other is leased
abbrev pub EveryOpenAskIsAnswered : Type 0
EveryOpenAskIsAnswered = (sha : List ℕ → Digest) (limits : Limits) → IsFarm sha limits → (size : ℕ) (plan : ℕ → Event) (start : ℕ)
    → IsFair sha limits size plan start
    → (who : NodeId) (ask : Ask) (wants : List Want) (tenure : Bool)
    → IsWaiting (farm_at sha limits size plan start) who ask wants tenure
    → LivesOn sha limits size plan start who
    → IsForOne tenure wants
    → (later : ℕ) × (start ≤ later) × IsAnsweredAt sha limits size plan later who ask

-- ---- what the words of the premises reach

-- there are fair runs: one goes on from each farm that a schedule leads to whose coordinator is up, with no failed save ahead, where
-- no node is down for good and none has more than one ask. Its nodes live on
abbrev pub ThereAreFairRuns : Type 0
ThereAreFairRuns = (sha : List ℕ → Digest) (limits : Limits) → IsFarm sha limits → (size : ℕ) (events : List Event) → AreEvents events
    → let farm : Farm = scheduled sha limits size events in
    farm.down ≡ false
    → farm.armed ≡ None
    → NoneIsDown farm
    → ((number : ℕ) → length (farm.nodes number).asks ≤ 1)
    → (plan : ℕ → Event) × (firsts plan (length events) ≡ events)
    × IsFair sha limits size plan (length events)
    × ((who : NodeId) → farm.ledger.gone who.0 ≡ false → LivesOn sha limits size plan (length events) who)

-- an ask with one folder, and one for a tenure, waits for at most one
abbrev pub OneFolderIsOne : Type 0
OneFolderIsOne = (tenure : Bool) (want : Want) → IsForOne tenure (want ∷ [])
