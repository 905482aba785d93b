-- Progress: where leases are given back each parked ask is answered, in a number of Releases that is known before.
-- The rules are this project's own.
use Rattle.std.specs.Prelude.{◌≡◌, ℕ, ◌+◌, ◌≤◌, ◌<◌, true, false, nat_lt, Bool, List, [], ◌∷◌, ◌++◌, ◌⊎◌, length, map, Some, None, ⊤, ◌*◌, Ok}
use Rattle.farm_base.specs.declared.message.Request.TheVariants.{Acquire, Release}
use Rattle.protocol.specs.Lists.{In, nth}
use Rattle.protocol.specs.Names.{NodeId, Ask, Ticket, Want, Digest, is_private, leased_wants}
use Rattle.protocol.specs.Machine.{Said, Told, Message, FromCoord, ToCoord, Parked}
use Rattle.protocol.specs.Ledger.{Limits, Ledger, Lease, Work, begin_work, handled, holds_wanted}
use Rattle.protocol.specs.Meaning.{IsAnswered}
use Rattle.protocol.specs.Lawful.{IsEvent}
use Rattle.protocol.specs.Replay.{Event, Deliver, Abort, Resend, Nudge, Withdraw, Farm, is_node, step, run, scheduled}
use Rattle.protocol.specs.Replay as replay
use Rattle.events.specs.declared.answer.EventNote.TheVariants as event
use Rattle.events.specs.declared.answer.NodeNote.TheVariants as node
use Rattle.events.specs.declared.answer.Outcome.{Outcome}
use Rattle.protocol.specs.World.{KeptAsk, Open, Holding, Running, Finished, Over}
use Rattle.protocol.specs.Follows.{IsFarm}

-- the lease is given back, by its node in its life
abbrev pub release_of : Lease → ToCoord
release_of lease = record { node = lease.node; life = lease.life; request = Release lease.ticket }

-- how many leases and parked asks there are
abbrev pub size_of : Ledger → ℕ
size_of ledger = length ledger.live + length ledger.parked

-- the ask waits for a lease that is live
abbrev pub WaitsForLease : Ledger → Parked → Type 0
WaitsForLease ledger parked = (lease : Lease) × In lease ledger.live × (holds_wanted parked lease ≡ true)

module _ (limits : Limits) where
  -- what the coordinator does where the lease is given back
  abbrev pub given_back : Lease → Ledger → Work
  given_back lease ledger = handled limits (release_of lease) (begin_work ledger)

  -- this many leases are given back, one after another, each while it is live, and all this is sent
  pub data Gives_back (ledger : Ledger) : ℕ → Ledger → List FromCoord → Type 0 where
    Rests : Gives_back ledger 0 ledger []
    And_one : (count : ℕ) (now : Ledger) (sends : List FromCoord) (lease : Lease)
        → Gives_back ledger count now sends
        → In lease now.live
        → Gives_back ledger (count + 1) (given_back lease now).ledger (sends ++ (given_back lease now).sends)

  -- what comes of it
  pub record GoesOn (before : Ledger) (count : ℕ) (after : Ledger) (sends : List FromCoord) : Type 0 where
    -- each Release takes a lease or a parked ask away, though it may turn others from the one into the other
    pub ends : count + size_of after ≤ size_of before
    -- no parked ask is lost
    pub answers : (parked : Parked) → In parked before.parked
        → In parked after.parked ⊎ IsAnswered parked (map Told sends)
    -- and while one is parked a lease is live that it waits for
    pub waits : (parked : Parked) → In parked after.parked → WaitsForLease after parked

-- the events are ones that the program has
abbrev pub AreEvents : List Event → Type 0
AreEvents events = (event : Event) → In event events → IsEvent event

-- in each farm that a schedule leads to, whichever leases are given back and in whatever order
abbrev pub GivingBackGoesOn : Type 0
GivingBackGoesOn = (sha : List ℕ → Digest) (limits : Limits) → IsFarm sha limits → (size : ℕ) (events : List Event) → AreEvents events
    → let before : Ledger = (scheduled sha limits size events).ledger in
    (count : ℕ) (after : Ledger) (sends : List FromCoord) → Gives_back limits before count after sends
    → GoesOn limits before count after sends

-- so each parked ask, for a tenure too, can be answered: some leases are given back, and it is granted or denied
abbrev pub EveryParkedAskCanBeAnswered : Type 0
EveryParkedAskCanBeAnswered = (sha : List ℕ → Digest) (limits : Limits) → IsFarm sha limits → (size : ℕ) (events : List Event) → AreEvents events
    → let before : Ledger = (scheduled sha limits size events).ledger in
    (parked : Parked) → In parked before.parked
    → (count : ℕ) × (after : Ledger) × (sends : List FromCoord) × Gives_back limits before count after sends
    × IsAnswered parked (map Told sends)

-- the withdrawals of these tickets, in this order
abbrev pub withdrawals : List Ticket → List Event
withdrawals tickets = map Withdraw tickets

-- withdrawals of these tickets answer the ask, and are no more than this
pub record Frees (sha : List ℕ → Digest) (limits : Limits) (farm : Farm) (parked : Parked) (tickets : List Ticket) : Type 0 where
  pub sent : List Message
  pub sends : (run sha limits (withdrawals tickets) farm).pool ≡ farm.pool ++ sent
  pub answered : IsAnswered parked sent
  pub few : length tickets ≤ size_of farm.ledger

-- whatever its nodes do or fail to do: in each farm that a schedule leads to whose coordinator is up, with no failed save
-- ahead, a parked ask that is for no tenure is answered by withdrawals alone, at most as many as there are leases and
-- parked asks
abbrev pub EveryParkedAskCanBeFreed : Type 0
EveryParkedAskCanBeFreed = (sha : List ℕ → Digest) (limits : Limits) (size : ℕ) (events : List Event) → AreEvents events
    → let farm : Farm = scheduled sha limits size events in
    farm.down ≡ false
    → farm.armed ≡ None
    → (parked : Parked) → In parked farm.ledger.parked → parked.tenure ≡ false
    → (tickets : List Ticket) × Frees sha limits farm parked tickets

-- the delivery of this message and then withdrawals of these tickets answer the ask
pub record Answers (sha : List ℕ → Digest) (limits : Limits) (farm : Farm) (number : ℕ) (parked : Parked) (tickets : List Ticket) : Type 0 where
  pub sent : List Message
  pub sends : (run sha limits (Deliver number ∷ withdrawals tickets) farm).pool ≡ farm.pool ++ sent
  pub answered : IsAnswered parked sent

-- so each ask that was ever sent, of a node that isn't retired and of no older life, if it is for no tenure
abbrev pub EveryAskCanBeAnswered : Type 0
EveryAskCanBeAnswered = (sha : List ℕ → Digest) (limits : Limits) → IsFarm sha limits → (size : ℕ) (events : List Event) → AreEvents events
    → let farm : Farm = scheduled sha limits size events in
    farm.down ≡ false
    → farm.armed ≡ None
    → (number : ℕ) (parked : Parked)
    → nth farm.pool number ≡ Some (Said (record {
      node = parked.node;
      life = parked.life;
      request = Acquire parked.ask parked.wants parked.tenure;
    }))
    → farm.ledger.gone parked.node.0 ≡ false
    → nat_lt parked.life.0 (farm.ledger.lives parked.node.0) ≡ false
    → parked.tenure ≡ false
    → (tickets : List Ticket) × Answers sha limits farm number parked tickets

abbrev pub is_open : KeptAsk → Bool
is_open (Open wants tenure) = true
is_open (Holding wants grant recalled) = false
is_open (Running wants grant recalled) = false
is_open (Finished wants grant news) = false
is_open (Over ending) = false

-- the node says again what it waits for, the ask is delivered, leases are withdrawn, and the answer is delivered
abbrev pub asking : NodeId → ℕ → List Ticket → ℕ → List Event
asking who number tickets last = (Resend who ∷ Deliver number ∷ withdrawals tickets) ++ Deliver last ∷ []

-- an open ask of a node that isn't retired or down for good
pub record IsWaiting (farm : Farm) (who : NodeId) (ask : Ask) (wants : List Want) (tenure : Bool) : Type 0 where
  pub there : is_node farm who ≡ true
  pub stays : farm.ledger.gone who.0 ≡ false
  pub runs : (farm.nodes who.0).spent ≡ false
  pub asks : nth (farm.nodes who.0).asks ask.0 ≡ Some (Open wants tenure)

-- after these events the ask is granted or denied, and its node knows
pub record IsAnsweredBy (sha : List ℕ → Digest) (limits : Limits) (farm : Farm) (who : NodeId) (ask : Ask) (events : List Event) : Type 0 where
  pub kept : KeptAsk
  pub here : nth ((run sha limits events farm).nodes who.0).asks ask.0 ≡ Some kept
  pub answered : is_open kept ≡ false

-- the protocol has no deadlock, but for tenures: in each farm that a schedule leads to whose coordinator is up, with no failed
-- save ahead, each open ask for a lease is granted or denied after a resend, some withdrawals and two deliveries. The
-- answer is one that was sent meanwhile, no old one. No node has to restart, and no other node has to do anything
abbrev pub EveryOpenAskCanBeAnswered : Type 0
EveryOpenAskCanBeAnswered = (sha : List ℕ → Digest) (limits : Limits) → IsFarm sha limits → (size : ℕ) (events : List Event) → AreEvents events
    → let farm : Farm = scheduled sha limits size events in
    farm.down ≡ false
    → farm.armed ≡ None
    → (who : NodeId) (ask : Ask) (wants : List Want) → IsWaiting farm who ask wants false
    → (number : ℕ) × (tickets : List Ticket) × (last : ℕ) × (length farm.pool < last)
    × IsAnsweredBy sha limits farm who ask (asking who number tickets last)

-- ---- by giving back

-- a message arrives that is sent after the first `before`, an execution is given up, or something is sent again: no lease
-- is withdrawn, nothing restarts, and no node is retired
abbrev pub IsGivingBack : ℕ → Event → Type 0
IsGivingBack before (Deliver number) = before < number
IsGivingBack before (Abort who ticket) = ⊤
IsGivingBack before (Resend who) = ⊤
IsGivingBack before Nudge = ⊤
IsGivingBack before event = ⊥

-- these events give the lease back
pub record IsGivenBackBy (sha : List ℕ → Digest) (limits : Limits) (farm : Farm) (lease : Lease) (events : List Event) : Type 0 where
  pub own : (event : Event) → In event events → IsGivingBack (length farm.pool) event
  pub few : length events ≤ 4
  pub ended : In lease (run sha limits events farm).ledger.live → ⊥
  -- there are fewer leases and parked asks then
  pub fewer : size_of (run sha limits events farm).ledger < size_of farm.ledger

-- in each farm that a schedule leads to whose coordinator is up, with no failed save ahead, a live lease that is no tenure, of
-- a node that isn't down for good, whatever state its ask is in: it is open, the node holds the grant or executes under it, has
-- sent its news, or hasn't the ask any more; or the node is in a newer life
abbrev pub EveryLeaseCanBeGivenBack : Type 0
EveryLeaseCanBeGivenBack = (sha : List ℕ → Digest) (limits : Limits) → IsFarm sha limits → (size : ℕ) (events : List Event) → AreEvents events
    → let farm : Farm = scheduled sha limits size events in
    farm.down ≡ false
    → farm.armed ≡ None
    → (lease : Lease) → In lease farm.ledger.live → lease.tenure ≡ false
    → (farm.nodes lease.node.0).spent ≡ false
    → (more : List Event) × IsGivenBackBy sha limits farm lease more

-- no node that isn't retired is down for good
abbrev pub NoneIsDown : Farm → Type 0
NoneIsDown farm = (who : NodeId) → is_node farm who ≡ true → farm.ledger.gone who.0 ≡ false → (farm.nodes who.0).spent ≡ false

-- these events have the ask answered
pub record IsAnsweredByGivingBack (sha : List ℕ → Digest) (limits : Limits) (farm : Farm) (who : NodeId) (ask : Ask) (events : List Event)
    : Type 0 where
  pub own : (event : Event) → In event events → IsGivingBack (length farm.pool) event
  pub few : length events ≤ 4 * size_of farm.ledger + 7
  pub answered : IsAnsweredBy sha limits farm who ask events

-- so where each execution ends, and what is sent again comes, each open ask for a lease is answered: nobody has to withdraw
-- anything, no node has to restart, and no message of before has to come
abbrev pub EveryOpenAskIsAnsweredByGivingBack : Type 0
EveryOpenAskIsAnsweredByGivingBack = (sha : List ℕ → Digest) (limits : Limits) → IsFarm sha limits → (size : ℕ) (events : List Event) → AreEvents events
    → let farm : Farm = scheduled sha limits size events in
    farm.down ≡ false
    → farm.armed ≡ None
    → NoneIsDown farm
    → (who : NodeId) (ask : Ask) (wants : List Want) → IsWaiting farm who ask wants false
    → (more : List Event) × IsAnsweredByGivingBack sha limits farm who ask more

-- a tenure can be given back too, if no node is down for good: first the asks of its node that use its folder are answered and
-- end
abbrev pub EveryTenureCanBeGivenBack : Type 0
EveryTenureCanBeGivenBack = (sha : List ℕ → Digest) (limits : Limits) → IsFarm sha limits → (size : ℕ) (events : List Event) → AreEvents events
    → let farm : Farm = scheduled sha limits size events in
    farm.down ≡ false
    → farm.armed ≡ None
    → NoneIsDown farm
    → (lease : Lease) → In lease farm.ledger.live
    → (more : List Event)
    × ((event : Event) → In event more → IsGivingBack (length farm.pool) event)
    × (In lease (run sha limits more farm).ledger.live → ⊥)

-- at most one of the folders of which a lease for the ask takes a slot has only one
abbrev pub IsForOne : Bool → List Want → Type 0
IsForOne tenure wants = (want want' : Want) → In want (leased_wants tenure wants) → In want' (leased_wants tenure wants)
    → is_private want.folder.mode ≡ false
    → is_private want'.folder.mode ≡ false
    → want.folder ≡ want'.folder

-- so each open ask that waits for at most one folder, for a tenure too
abbrev pub EveryOpenTenureIsAnsweredByGivingBack : Type 0
EveryOpenTenureIsAnsweredByGivingBack = (sha : List ℕ → Digest) (limits : Limits) → IsFarm sha limits → (size : ℕ) (events : List Event) → AreEvents events
    → let farm : Farm = scheduled sha limits size events in
    farm.down ≡ false
    → farm.armed ≡ None
    → NoneIsDown farm
    → (who : NodeId) (ask : Ask) (wants : List Want) (tenure : Bool) → IsWaiting farm who ask wants tenure → IsForOne tenure wants
    → (more : List Event)
    × ((event : Event) → In event more → IsGivingBack (length farm.pool) event)
    × IsAnsweredBy sha limits farm who ask more

-- ---- what the words of the premises reach

-- a farm whose nodes have a life left has none that is down for good
abbrev pub YoungNodesAreUp : Type 0
YoungNodesAreUp = (sha : List ℕ → Digest) (limits : Limits) → IsFarm sha limits → (size : ℕ) (events : List Event)
    → let farm : Farm = scheduled sha limits size events in
    ((who : NodeId) → (farm.nodes who.0).life.0 < limits.greatest)
    → NoneIsDown farm

-- an ask that is accepted, of a node that isn't retired, waits
abbrev pub AnAcceptedAskWaits : Type 0
AnAcceptedAskWaits = (sha : List ℕ → Digest) (limits : Limits) (farm : Farm) (who : NodeId) (wants : List Want) (outcome : Outcome)
    → (step sha limits farm (replay.Ask who wants)).outcome ≡ Ok outcome
    → farm.ledger.gone who.0 ≡ false
    → (ask : Ask) × (outcome.note ≡ event.Node (node.Asked ask))
    × IsWaiting (step sha limits farm (replay.Ask who wants)).farm who ask wants false
