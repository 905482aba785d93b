-- What the definitions reach that stand only under a 'for all' or left of an arrow: an emptier one would make the
-- theorems say less, and can't meet these (docs/PROOFS.md, "Does it say something").
use Rattle.std.specs.Prelude.{◌≡◌, ◌≢◌, ℕ, ◌<◌, ◌⊎◌, Bool, true, false, List, Some, Ok, slice_get}
use Rattle.farm_base.specs.Kinds.{is_tenure}
use Rattle.farm_base.specs.declared.message.FromCoord.TheVariants as told
use Rattle.protocol.specs.Lists.{In}
use Rattle.protocol.specs.Names.{Slot, is_alone, Shared, Private, NodeId, Life, Ticket, Digest, Want}
use Rattle.protocol.specs.Machine.{Grant, LineVersion, Confirmed, Made, ticket_of, Withdrawn, Died, Message, Told, ToCoord, acquire, Machine, line}
use Rattle.protocol.specs.Ledger.{Limits, Ledger, Lease}
use Rattle.protocol.specs.World.{Node, Holding}
use Rattle.protocol.specs.Nodes.{Left, NodeWork, Sent, begun, learned}
use Rattle.protocol.specs.Replay.{Event, Finish, Abort, RestartNode, Farm}
use Rattle.protocol.specs.Meaning.{IsAsk}
use Rattle.protocol.specs.Safe.{HoldsContent, IsWithdrawn, OnALine, Rising, Falling}
use Rattle.protocol.specs.Chronicle.{WantedUnder, EndsNothing, GoesOn}
use Rattle.protocol.specs.Processes.{Handle, Withdraw, Retire, CallEnds, Executes}

-- ---- orders

-- where tickets rise, they do between any two places
abbrev pub RisingIsOfAnyTwo : Type 0
RisingIsOfAnyTwo = (versions : List LineVersion) → Rising versions
    → (early late : ℕ) (older newer : LineVersion) → early < late
    → slice_get versions early ≡ Some older → slice_get versions late ≡ Some newer
    → older.ticket.0 < newer.ticket.0

abbrev pub FallingIsOfAnyTwo : Type 0
FallingIsOfAnyTwo = (made : List Made) → Falling made
    → (early late : ℕ) (newer older : Made) → early < late
    → slice_get made early ≡ Some newer → slice_get made late ≡ Some older
    → ticket_of older < ticket_of newer

-- ---- executions

-- each slot of a PRIVATE or SHARED folder is for one execution alone
abbrev pub PrivateAndSharedAreAlone : Type 0
PrivateAndSharedAreAlone = (slot : Slot) → (slot.folder.mode ≡ Private) ⊎ (slot.folder.mode ≡ Shared)
    → is_alone slot ≡ true

-- an accepted begin makes the node execute under the grant of this ticket that one of its asks held, at any place
abbrev pub AnAcceptedBeginExecutes : Type 0
AnAcceptedBeginExecutes = (state : Node) (ticket : Ticket) (work : NodeWork) → begun ticket state ≡ Ok work
    → (number : ℕ) × (wants : List Want) × (grant : Grant) × (recalled : Bool)
    × IsAsk state number (Holding wants grant recalled) × (grant.ticket ≡ ticket) × Executes work.node grant wants

-- the event ends no execution of the ticket on the node
pub record Spares (node : NodeId) (ticket : Ticket) (event : Event) : Type 0 where
  pub finish : (lefts : List Left) → event ≢ Finish node ticket lefts
  pub abort : event ≢ Abort node ticket
  pub restart : event ≢ RestartNode node

-- an execution goes on through all events but those
abbrev pub WhatIsSparedGoesOn : Type 0
WhatIsSparedGoesOn = (sha : List ℕ → Digest) (limits : Limits) (node : NodeId) (ticket : Ticket)
    (events : List Event) (farm : Farm) → ((event : Event) → In event events → Spares node ticket event)
    → GoesOn sha limits node ticket events farm

-- the wants of an ask that a Grant answers are those of its ticket
abbrev pub WhatIsWantedIsWantedUnder : Type 0
WhatIsWantedIsWantedUnder = (pool : List Message) (grant : Grant) (wants : List Want) (want : Want)
    → In (Told (told.Granted grant)) pool
    → In (acquire grant.node grant.life grant.ask wants (is_tenure grant.kind)) pool → In want wants
    → WantedUnder pool grant.ticket want.folder

-- ---- what ends

-- each version on a line has its ticket on a line, and each withdrawn or dead grant is withdrawn
pub record EndsAreSeen (empty : Digest) (machine : Machine) : Type 0 where
  pub on_line : (slot : Slot) (version : LineVersion) → In version (line empty machine slot)
      → OnALine empty machine version.ticket
  pub withdrawn : (ticket : Ticket) → machine.ending ticket.0 ≡ Some Withdrawn → IsWithdrawn machine ticket
  pub died : (ticket : Ticket) → machine.ending ticket.0 ≡ Some Died → IsWithdrawn machine ticket
  -- a message of the greatest life ends nothing
  pub present : (node : NodeId) (life : Life) → machine.lives node.0 ≡ life.0 → EndsNothing machine node life

abbrev pub EveryEndIsSeen : Type 0
EveryEndIsSeen = (empty : Digest) (machine : Machine) → EndsAreSeen empty machine

-- of the coordinator's process: its withdrawal, its node's retirement and a message of a newer life end a lease
pub record CallsEnd (ledger : Ledger) (lease : Lease) : Type 0 where
  pub withdrawal : CallEnds ledger (Withdraw lease.ticket) lease
  pub retirement : CallEnds ledger (Retire lease.node) lease
  pub newer_life : (saying : ToCoord) → ledger.gone saying.node.0 ≡ false → saying.node ≡ lease.node
      → ledger.lives saying.node.0 < saying.life.0 → lease.life.0 < saying.life.0
      → CallEnds ledger (Handle saying) lease

abbrev pub TheseCallsEndLeases : Type 0
TheseCallsEndLeases = (ledger : Ledger) (lease : Lease) → CallsEnd ledger lease

-- ---- contents

-- a node that learns that its news count holds each version whose content it stores
abbrev pub WhatIsLearnedIsHeld : Type 0
WhatIsLearnedIsHeld = (state : Node) (ticket : Ticket) (place : ℕ) (sent : Sent) (versions : List Confirmed)
    (version : Confirmed) (content : List ℕ) → In version versions
    → ((other : Confirmed) → In other versions → other.slot ≡ version.slot → other.number ≡ version.number
    → other ≡ version)
    → state.store version.digest ≡ Some content
    → HoldsContent (learned ticket versions state (Some (place, sent))).node version.slot version.number content
