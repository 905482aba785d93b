-- What a farm sends and keeps whose numbers are in their ranges: so what its coordinator keeps can be written down as a
-- record (docs/PROOFS.md, "The record"). The rules are this project's own.
use Rattle.std.specs.Prelude.{◌≡◌, ℕ, ◌≤◌, ◌<◌, ◌&&◌, Bool, true, false, List, [], ◌∷◌, map, Some, ⊤, Result, Ok, Err}
use Rattle.farm_base.specs.Wanted.{IsWants}
use Rattle.farm_base.specs.declared.message.Request.{Request}
use Rattle.farm_base.specs.declared.message.Request.TheVariants.{Hello, Acquire, Commit, Release}
use Rattle.farm_base.specs.declared.message.Message.TheVariants as to
use Rattle.protocol.specs.Lists.{In}
use Rattle.protocol.specs.Names.{Slot, is_private, is_shared, NodeId, Life, Ask, Ticket, Digest, Want, leased_wants}
use Rattle.protocol.specs.Machine.{LineVersion, Message, ToCoord, Parked}
use Rattle.events.specs.declared.answer.CoordRefusal.{CoordRefusal}
use Rattle.protocol.specs.Ledger.{Limits, Ledger, Lease, Work, begin_work, handled, withdrawn, retired, pruned, saves, reads, has_slot, is_of}
use Rattle.protocol.specs.Follows.{Waits}
use Rattle.protocol.specs.World.{Open, Node}
use Rattle.protocol.specs.Replay.{Event, Farm, step, opening}
use Rattle.protocol.specs.Replay as replay

-- a node of a farm with at most `top` nodes; they are counted from 1
abbrev pub IsNumber : ℕ → NodeId → Type 0
IsNumber top node = (1 ≤ node.0) × (node.0 ≤ top)

-- a node in a life; lives are counted from 1
pub record IsSpeaker (top : ℕ) (its_node : NodeId) (its_life : Life) : Type 0 where
  pub node : IsNumber top its_node
  pub life : 1 ≤ its_life.0

-- one SHARED folder, writable
abbrev pub are_for_tenure : List Want → Bool
are_for_tenure [] = false
are_for_tenure (want ∷ []) = is_shared want.folder.mode && want.writable
are_for_tenure (want ∷ next ∷ wants) = false

-- at most 16 folders, each once; a tenure wants its SHARED folder alone, writable
pub record AreAsked (tenure : Bool) (wants : List Want) : Type 0 where
  pub sorted : IsWants wants
  pub one : tenure ≡ true → are_for_tenure wants ≡ true

-- the ask of a request is a number from 1 on, with wants that may be asked for
abbrev pub IsRequest : Request → Type 0
IsRequest Hello = ⊤
IsRequest (Acquire ask wants tenure) = (1 ≤ ask.0) × AreAsked tenure wants
IsRequest (Commit ticket news) = ⊤
IsRequest (Release ticket) = ⊤

-- a message to the coordinator whose numbers are in their ranges
pub record IsSaid (top : ℕ) (saying : ToCoord) : Type 0 where
  pub speaker : IsSpeaker top saying.node saying.life
  pub request : IsRequest saying.request

-- a message whose numbers are in their ranges, where it is for the coordinator
abbrev pub IsMessage : ℕ → Message → Type 0
IsMessage top (to.ToCoord saying) = IsSaid top saying
IsMessage top (to.ToNode mail) = ⊤

-- an ask of a node's greatest life, the node not being retired; asks are counted from 1
pub record IsAsker (top : ℕ) (lives : ℕ → ℕ) (gone : ℕ → Bool) (node : NodeId) (its_life : Life) (its_ask : Ask)
    : Type 0 where
  pub speaker : IsSpeaker top node its_life
  pub ask : 1 ≤ its_ask.0
  pub life : lives node.0 ≡ its_life.0
  pub stays : gone node.0 ≡ false

-- the want that a lease's slot is for
abbrev pub want_of : Slot × Bool → Want
want_of pair = record { folder = pair.0.folder; writable = pair.1 }

-- a live lease: its slots are for the wants of its ask, and none is retired
pub record IsHolder (top : ℕ) (lives : ℕ → ℕ) (gone : ℕ → Bool) (retired : Slot → Bool) (lease : Lease) : Type 0 where
  pub asker : IsAsker top lives gone lease.node lease.life lease.ask
  pub ticket : 1 ≤ lease.ticket.0
  pub wants : (wants : List Want)
      × AreAsked lease.tenure wants
      × (map want_of lease.slots ≡ leased_wants lease.tenure wants)
  pub kept : (slot : Slot) → has_slot lease.slots slot ≡ true → retired slot ≡ false

-- a parked ask
pub record IsWaiter (top : ℕ) (lives : ℕ → ℕ) (gone : ℕ → Bool) (parked : Parked) : Type 0 where
  pub asker : IsAsker top lives gone parked.node parked.life parked.ask
  pub wants : AreAsked parked.tenure parked.wants

-- two live leases, the older first: of different asks, with no slot in common
pub record AreApart (lease other : Lease) : Type 0 where
  pub ticket : lease.ticket.0 < other.ticket.0
  pub ask : is_of lease.node lease.life lease.ask other ≡ false
  pub slots : (slot : Slot) → has_slot lease.slots slot ≡ true → has_slot other.slots slot ≡ false

-- each two of the leases, the oldest standing first
abbrev pub AllApart : List Lease → Type 0
AllApart [] = ⊤
AllApart (lease ∷ leases) = ((other : Lease) → In other leases → AreApart lease other) × AllApart leases

-- all that a ledger has but its parked asks
pub record IsCore (top : ℕ) (ledger : Ledger) : Type 0 where
  pub holders : (lease : Lease) → In lease ledger.live → IsHolder top ledger.lives ledger.gone ledger.retired lease
  pub apart : AllApart ledger.live
  pub given : (lease : Lease) → In lease ledger.live → lease.ticket.0 ≤ ledger.last
  pub retired : (slot : Slot) → ledger.retired slot ≡ true → is_private slot.folder.mode ≡ true
  pub versions : (slot : Slot) (version : LineVersion) → In version (ledger.line slot) → 1 ≤ version.ticket.0
  pub block : ledger.last ≤ ledger.ceiling
  pub home : (node : NodeId) → ledger.old_home ≡ Some node → IsNumber top node
  pub lives : (number : ℕ) → 1 ≤ ledger.lives number → IsNumber top (record { 0 = number })
  pub gone : (number : ℕ) → ledger.gone number ≡ true → IsNumber top (record { 0 = number })

-- these parked asks, of which no two are one ask, and none has a lease
pub record AreWaiters (top : ℕ) (ledger : Ledger) (queue : List Parked) : Type 0 where
  pub each : (parked : Parked) → In parked queue → IsWaiter top ledger.lives ledger.gone parked
  pub waits : Waits ledger.live queue

-- all that a ledger has
pub record IsLawful (top : ℕ) (ledger : Ledger) : Type 0 where
  pub core : IsCore top ledger
  pub parked : AreWaiters top ledger ledger.parked

-- a node: its life, and what its open asks want
pub record IsLawfulNode (state : Node) : Type 0 where
  pub life : 1 ≤ state.life.0
  pub asks : (wants : List Want) (tenure : Bool) → In (Open wants tenure) state.asks → AreAsked tenure wants

-- an event as the program has it: an ask's folders rise, each once
abbrev pub IsEvent : Event → Type 0
IsEvent (replay.Ask node wants) = IsWants wants
IsEvent event = ⊤

-- a farm of at most `top` nodes
pub record IsLawfulFarm (top : ℕ) (farm : Farm) : Type 0 where
  pub size : farm.size ≤ top
  pub ledger : IsLawful top farm.ledger
  -- what a restart reads
  pub saved : IsLawful top (reads farm.saved)
  pub pool : (message : Message) → In message farm.pool → IsMessage top message
  pub nodes : (number : ℕ) → IsLawfulNode (farm.nodes number)

-- what the work of an accepted call leaves
abbrev pub IsLawfulWork : ℕ → Result Work CoordRefusal → Type 0
IsLawfulWork top (Ok work) = IsLawful top work.ledger
IsLawfulWork top (Err reason) = ⊤

-- each thing that the coordinator does leaves the ledger lawful
pub record StaysLawful (top : ℕ) (limits : Limits) (ledger : Ledger) : Type 0 where
  pub message : (saying : ToCoord) → IsSaid top saying → IsLawful top (handled limits saying (begin_work ledger)).ledger
  pub withdraw : (ticket : Ticket) → IsLawfulWork top (withdrawn limits ticket (begin_work ledger))
  pub retire : (node : NodeId) → IsNumber top node → IsLawfulWork top (retired limits node (begin_work ledger))
  pub prune : (slot : Slot) → IsLawfulWork top (pruned limits slot (begin_work ledger))
  pub restart : IsLawful top (reads (saves ledger))

-- what the coordinator does leaves a lawful ledger lawful
abbrev pub EveryLedgerStaysLawful : Type 0
EveryLedgerStaysLawful =
    (top : ℕ) (limits : Limits) (ledger : Ledger) → IsLawful top ledger → StaysLawful top limits ledger

-- each event leaves a lawful farm lawful
abbrev pub EveryFarmStaysLawful : Type 0
EveryFarmStaysLawful =
    (sha : List ℕ → Digest) (limits : Limits) (top : ℕ) (farm : Farm) (event : Event)
    → IsEvent event
    → IsLawfulFarm top farm
    → IsLawfulFarm top (step sha limits farm event).farm

-- a farm where nothing happened is lawful
abbrev pub EveryOpeningIsLawful : Type 0
EveryOpeningIsLawful = (sha : List ℕ → Digest) (top size : ℕ) → size ≤ top → IsLawfulFarm top (opening sha size)
