-- The coordinator and the nodes as processes, which hear lines and write lines. Between them is a network that loses,
-- repeats, delays and reorders. Of all that it hands over, only a line that some process wrote gets as far as the rules
-- of this file: that is the premise on the farm's key, under which no other line opens, nor half a line. Further
-- premises: one process at a time is the coordinator, or is one node; what was saved lasts; an execution is over before
-- its node's next life begins.
use Rattle.std.specs.Prelude.{◌≡◌, ◌≢◌, ℕ, ◌+◌, ◌<◌, ◌≤◌, Bool, true, false, if◌then◌else◌, List, [], ◌∷◌, ◌++◌, map, ◌⊎◌, Option, Some, None, is_some, Result, Ok, Err, slice_get, ⊤}
use Rattle.farm_base.specs.Kinds.{is_tenure}
use Rattle.protocol.specs.Lists.{In, IsFrontOf, put, nth}
use Rattle.protocol.specs.Names.{Slot, is_alone, wants_shared, only_slot, NodeId, Life, Ask, Ticket, Digest, Want, FolderName}
use Rattle.protocol.specs.Machine.{Grant, Confirmed, LineVersion, Message, ToCoord, ToNode, Said, Told, Has, hello, HasPart}
use Rattle.farm_base.specs.declared.message.Message.TheVariants as to
use Rattle.farm_base.specs.declared.message.ToNode.TheVariants as to_node
use Rattle.farm_base.specs.declared.message.FromCoord.TheVariants as told
use Rattle.events.specs.declared.answer.CoordRefusal.{CoordRefusal}
use Rattle.protocol.specs.Ledger.{Limits, Ledger, Work, begin_work, handled, withdrawn, retired, pruned, nudged, Lease, Saved, saves, reads}
use Rattle.protocol.specs.Ledger as ledgers
use Rattle.protocol.specs.World.{KeptAsk, Node, Running, has_life, first_node}
use Rattle.protocol.specs.Nodes.{Place, Left, NodeWork, NodeAnswer, asked, asked_tenure, begun, finished_with, aborted, forgotten, resent, may_restart, received, brought, unless_spent}
use Rattle.protocol.specs.Replay.{Farm, Event, run, scheduled, receiver}
use Rattle.protocol.specs.Safe.{HoldsContent, Rising}
use Rattle.protocol.specs.Lawful.{IsNumber}
use Rattle.protocol.specs.Follows.{IsFarm}

-- the coordinator: its ledger while it runs, and the record that its disk holds
pub record Coordinator : Type 0 where
  pub memory : Option Ledger
  pub disk : Saved

-- all processes, and each line that ever reached the network. A node's life, contents and known versions are on its
-- disk
pub record Processes : Type 0 where
  pub coordinator : Coordinator
  pub nodes : ℕ → Node
  pub written : List Message

-- ---- the coordinator

-- what it takes: a line that it hears, or the operator's call
pub data Call : Type 0 where
  Handle : (message : ToCoord) → Call
  Withdraw : (ticket : Ticket) → Call
  Prune : (slot : Slot) → Call
  Retire : (node : NodeId) → Call
  Nudge : Call

-- a line is heard where it was written; a node that is retired is one of the farm's
abbrev pub MayCome : ℕ → List Message → Call → Type 0
MayCome size written (Handle saying) = In (Said saying) written
MayCome size written (Withdraw ticket) = ⊤
MayCome size written (Prune slot) = ⊤
MayCome size written (Retire node) = IsNumber size node
MayCome size written Nudge = ⊤

abbrev pub AllMayCome : ℕ → List Message → List Call → Type 0
AllMayCome size written calls = (call : Call) → In call calls → MayCome size written call

-- what it has of the calls that it took: the ledger, the record that it is to save, and the lines that it is to write
-- then
pub record Batch : Type 0 where
  pub ledger : Ledger
  pub to_save : Saved
  pub sends : List Message

abbrev pub begin_batch : Ledger → Saved → Batch
begin_batch ledger disk = record { ledger = ledger; to_save = disk; sends = [] }

-- a call that is refused leaves all as it was
abbrev pub taken : Result Work CoordRefusal → Batch → Batch
taken (Err why) gathered = gathered
taken (Ok work) gathered = record {
  ledger = work.ledger;
  to_save = if work.changed then saves work.ledger else gathered.to_save;
  sends = gathered.sends ++ map Told work.sends;
}

-- the coordinator that goes on after the calls
abbrev pub running_after : Batch → Coordinator
running_after gathered = record { memory = Some gathered.ledger; disk = gathered.to_save }

-- all that is left of it where it was killed after them: its disk
abbrev pub killed_after : Batch → Coordinator
killed_after gathered = record { memory = None; disk = gathered.to_save }

module _ (limits : Limits) where
  abbrev pub decided : Ledger → Call → Result Work CoordRefusal
  decided ledger (Handle saying) = Ok (handled limits saying (begin_work ledger))
  decided ledger (Withdraw ticket) = withdrawn limits ticket (begin_work ledger)
  decided ledger (Prune slot) = pruned limits slot (begin_work ledger)
  decided ledger (Retire node) = retired limits node (begin_work ledger)
  decided ledger Nudge = Ok (nudged limits (begin_work ledger))

  -- the calls in their order
  abbrev pub batch : List Call → Batch → Batch
  batch [] gathered = gathered
  batch (call ∷ calls) gathered = batch calls (taken (decided gathered.ledger call) gathered)

  -- what the coordinator does, and the lines of it that reach the network
  pub data CoordinatorDoes (size : ℕ) (written : List Message) (coordinator : Coordinator)
      : List Message → Coordinator → Type 0 where
    -- it takes one call or several, saves once, and writes then. Of that a part is lost, if it is killed while it
    -- writes
    Works : (ledger : Ledger) (calls : List Call) (lines : List Message) → coordinator.memory ≡ Some ledger
        → AllMayCome size written calls
        → HasPart (batch calls (begin_batch ledger coordinator.disk)).sends lines
        → CoordinatorDoes size written coordinator lines
        (running_after (batch calls (begin_batch ledger coordinator.disk)))
    -- it is killed before the save is done, or the save fails. The disk has the record after the first of the calls,
    -- which may be none or all of them, and nothing is written
    Fails : (ledger : Ledger) (early late : List Call) → coordinator.memory ≡ Some ledger
        → AllMayCome size written (early ++ late)
        → CoordinatorDoes size written coordinator []
        (killed_after (batch early (begin_batch ledger coordinator.disk)))
    Is_killed : CoordinatorDoes size written coordinator [] (record coordinator { memory = None })
    -- it starts, from its disk and nothing else
    Starts : CoordinatorDoes size written coordinator []
        (record coordinator { memory = Some (reads coordinator.disk) })

-- ---- the nodes

-- what a node takes: a line that it hears, or a call of its agent
pub data NodeCall : Type 0 where
  Receive : (message : ToNode) → NodeCall
  Ask_lease : (wants : List Want) → NodeCall
  Ask_tenure : (folder : FolderName) → NodeCall
  Begin : (ticket : Ticket) → NodeCall
  Finish : (ticket : Ticket) (lefts : List Left) → NodeCall
  Abort : (ticket : Ticket) → NodeCall
  Resend : NodeCall
  -- a content from anywhere
  Bring : (content : List ℕ) → NodeCall
  Forget : (digest : Digest) → NodeCall

-- a line for this node is heard where it was written
abbrev pub MayReach : List Message → NodeId → NodeCall → Type 0
MayReach written node (Receive message) = In (to.ToNode message) written × (receiver message ≡ node)
MayReach written node (Ask_lease wants) = ⊤
MayReach written node (Ask_tenure folder) = ⊤
MayReach written node (Begin ticket) = ⊤
MayReach written node (Finish ticket lefts) = ⊤
MayReach written node (Abort ticket) = ⊤
MayReach written node Resend = ⊤
MayReach written node (Bring content) = ⊤
MayReach written node (Forget digest) = ⊤

module _ (sha : List ℕ → Digest) (limits : Limits) where
  abbrev pub node_decided : Place → Node → NodeCall → NodeAnswer
  node_decided at state (Receive message) = unless_spent state (received sha limits at message state)
  node_decided at state (Ask_lease wants) = asked limits at wants state
  node_decided at state (Ask_tenure folder) = asked_tenure limits at folder state
  node_decided at state (Begin ticket) = begun ticket state
  node_decided at state (Finish ticket lefts) = finished_with sha at ticket lefts state
  node_decided at state (Abort ticket) = aborted at ticket state
  node_decided at state Resend = resent limits at state
  node_decided at state (Bring content) = unless_spent state (brought sha content state)
  node_decided at state (Forget digest) = forgotten limits digest state

  -- what a node does, and the lines of it that reach the network
  pub data NodeDoes (written : List Message) (node : NodeId) (state : Node) : List Message → Node → Type 0 where
    -- it does an accepted call, and writes then. Of that a part is lost, if it is killed while it writes. `count` is
    -- how many nodes it takes the farm to have, when it asks the others for contents
    Acts : (count : ℕ) (call : NodeCall) (work : NodeWork) (lines : List Message) → MayReach written node call
        → node_decided (record { node = node; nodes = count }) state call ≡ Ok work
        → HasPart work.sends lines
        → NodeDoes written node state lines work.node
    -- it starts, after a kill or for the first time, in a greater life, which is on its disk before a line of that life
    -- is written. Until then its asks are as they were, since an execution may outlast its process
    Begins_life : (life : Life) (lines : List Message) → state.spent ≡ false → state.life.0 < life.0
        → life.0 ≤ limits.greatest
        → HasPart (hello node life ∷ []) lines
        → NodeDoes written node state lines (has_life state life.0)
    -- some contents or known versions are gone: lost with its disk, or not yet there when it was killed
    Loses : (store : Digest → Option (List ℕ)) (known : Slot → ℕ → Option Digest)
        → ((digest : Digest) (content : List ℕ) → store digest ≡ Some content → state.store digest ≡ Some content)
        → ((slot : Slot) (number : ℕ) (digest : Digest) → known slot number ≡ Some digest
        → state.known slot number ≡ Some digest)
        → NodeDoes written node state [] (record state { store = store; known = known })
    -- its greatest life is over
    Is_spent : may_restart limits state ≡ false
        → NodeDoes written node state [] (record state { spent = true })

  -- ---- runs

  -- one process does something
  pub data Happens (size : ℕ) (processes : Processes) : Processes → Type 0 where
    Coordinator_does : (lines : List Message) (after : Coordinator)
        → CoordinatorDoes limits size processes.written processes.coordinator lines after
        → Happens size processes
        (record processes { coordinator = after; written = processes.written ++ lines })
    Node_does : (node : NodeId) (lines : List Message) (after : Node) → IsNumber size node
        → NodeDoes processes.written node (processes.nodes node.0) lines after
        → Happens size processes
        (record processes { nodes = put node.0 after processes.nodes; written = processes.written ++ lines })

  pub data Runs (size : ℕ) : Processes → Processes → Type 0 where
    Rests : (processes : Processes) → Runs size processes processes
    Goes_on : (processes middle later : Processes) → Runs size processes middle
        → Happens size middle later → Runs size processes later

-- ---- the processes are the farm

-- all lines but those that bring and fetch contents. A content is taken by its digest, whoever sent it
abbrev pub IsOfLeases : Message → Type 0
IsOfLeases (to.ToCoord message) = ⊤
IsOfLeases (to.ToNode (to_node.FromCoord message)) = ⊤
IsOfLeases (to.ToNode (to_node.Fetch message)) = ⊥
IsOfLeases (to.ToNode (to_node.Blob node content)) = ⊥

module _ (sha : List ℕ → Digest) where
  -- nothing is on the coordinator's disk, and no process has written a line
  abbrev pub first_processes : Processes
  first_processes = record {
    coordinator = record { memory = None; disk = saves ledgers.opening };
    nodes = λ node. first_node sha;
    written = [];
  }

  -- the farm's node is this process: in its life and with its asks. It has all that the process has of contents and
  -- known versions, and what the process lost
  pub record IsNodeOf (state process : Node) : Type 0 where
    pub life : state.life ≡ process.life
    pub asks : state.asks ≡ process.asks
    pub spent : state.spent ≡ process.spent
    pub contents : (digest : Digest) (content : List ℕ) → process.store digest ≡ Some content → (sha content ≡ digest)
        × (is_some (state.store digest) ≡ true)
    pub versions : (slot : Slot) (number : ℕ) (digest : Digest) → process.known slot number ≡ Some digest
        → state.known slot number ≡ Some digest

  -- each process's state is its part of the farm's, and all that was written of leases is in its pool
  pub record IsFarmOf (farm : Farm) (processes : Processes) : Type 0 where
    pub up : farm.down ≡ false
    pub disk : farm.saved ≡ processes.coordinator.disk
    pub memory : (ledger : Ledger) → processes.coordinator.memory ≡ Some ledger → farm.ledger ≡ ledger
    pub nodes : (number : ℕ) → IsNodeOf (farm.nodes number) (processes.nodes number)
    pub written : (message : Message) → IsOfLeases message → In message processes.written → In message farm.pool

  module _ (limits : Limits) where
    -- schedules that lead to the farms of processes and of the same processes later
    pub record AreScheduled (size : ℕ) (processes later : Processes) : Type 0 where
      pub early : List Event
      pub late : List Event
      pub before : IsFarmOf (scheduled sha limits size early) processes
      pub after : IsFarmOf (run sha limits late (scheduled sha limits size early)) later

abbrev pub ProcessesAreTheFarm : Type 0
ProcessesAreTheFarm = (sha : List ℕ → Digest) (limits : Limits) (size : ℕ) (processes later : Processes)
    → Runs sha limits size (first_processes sha) processes → Runs sha limits size processes later
    → AreScheduled sha limits size processes later

-- ---- so what is proved of schedules is so of processes

-- the node executes under the grant, for these wants
abbrev pub Executes : Node → Grant → List Want → Type 0
Executes state grant wants = (place : ℕ) × (recalled : Bool)
    × (nth state.asks place ≡ Some (Running wants grant recalled))

-- of processes, and the same processes later
pub record StaySafe (sha : List ℕ → Digest) (processes later : Processes) : Type 0 where
  -- a node then and a node later hold one content for a version, or the two contents are a collision
  pub contents : (node node' : NodeId) (slot : Slot) (number : ℕ) (content content' : List ℕ)
      → HoldsContent (processes.nodes node.0) slot number content
      → HoldsContent (later.nodes node'.0) slot number content'
      → (content ≡ content') ⊎ ((content ≢ content') × (sha content ≡ sha content'))
  -- no two executions have one PRIVATE instance, or one tenure's slot
  pub alone : (node node' : NodeId) (grant grant' : Grant) (wants wants' : List Want) (slot : Slot)
      → Executes (processes.nodes node.0) grant wants → Executes (processes.nodes node'.0) grant' wants'
      → Has grant slot → Has grant' slot → is_alone slot ≡ true
      → (node ≡ node') × (grant ≡ grant')
  -- an execution that wants a SHARED folder is on a node where the tenure of it is in use
  pub at_home : (node : NodeId) (grant : Grant) (wants : List Want) (want : Want)
      → Executes (processes.nodes node.0) grant wants → In want wants → wants_shared want ≡ true
      → (holder : Grant) × (others : List Want) × Executes (processes.nodes node.0) holder others
      × (is_tenure holder.kind ≡ true) × Has holder (only_slot want.folder)
  -- a ticket that was given, of which there is neither a lease nor a version, is on no line from then on, whatever late
  -- Commit comes: so of each lease that a withdrawal, a retirement, a newer life or a restart has ended
  pub over : (ledger : Ledger) (ticket : Ticket) → processes.coordinator.memory ≡ Some ledger
      → ticket.0 ≤ ledger.last
      → ((lease : Lease) → In lease ledger.live → lease.ticket ≢ ticket)
      → ((slot : Slot) (version : LineVersion) → In version (ledger.line slot) → version.ticket ≢ ticket)
      → (slot : Slot) (version : LineVersion) → In version (later.coordinator.disk.line slot)
      → version.ticket ≢ ticket
  -- tickets rise along a line on the disk
  pub rising : (slot : Slot) → Rising (later.coordinator.disk.line slot)
  -- and it only grows
  pub lines : (slot : Slot) → IsFrontOf (processes.coordinator.disk.line slot) (later.coordinator.disk.line slot)
  -- each version that a confirmation names, once that is written, stands there on the disk
  pub confirmed : (node : NodeId) (life : Life) (ticket : Ticket) (versions : List Confirmed) (version : Confirmed)
      → In (Told (told.Committed node life ticket versions)) processes.written → In version versions
      → (index : ℕ) × (version.number ≡ index + 1)
      × (slice_get (later.coordinator.disk.line version.slot) index
      ≡ Some (record { ticket = ticket; digest = version.digest }))
  -- what was fenced is on no line
  pub fenced : (node : NodeId) (life : Life) (ticket : Ticket)
      → In (Told (told.Fenced node life ticket)) processes.written → (slot : Slot) (version : LineVersion)
      → In version (later.coordinator.disk.line slot) → version.ticket ≡ ticket → ⊥
  -- a ticket whose grant is written isn't above the ceiling on the disk, above which tickets go on after a start
  pub tickets : (grant : Grant) → In (Told (told.Granted grant)) processes.written
      → grant.ticket.0 ≤ later.coordinator.disk.ceiling

abbrev pub ProcessesStaySafe : Type 0
ProcessesStaySafe = (sha : List ℕ → Digest) (limits : Limits) → IsFarm sha limits
    → (size : ℕ) (processes later : Processes) → Runs sha limits size (first_processes sha) processes
    → Runs sha limits size processes later → StaySafe sha processes later

-- a lease that the coordinator withdrew, among other calls, is on no line from then on, whatever late Commit comes
abbrev pub WithdrawnStaysOut : Type 0
WithdrawnStaysOut = (sha : List ℕ → Digest) (limits : Limits) → IsFarm sha limits
    → (size : ℕ) (processes later : Processes) → Runs sha limits size (first_processes sha) processes
    → (ledger : Ledger) (early late : List Call) (ticket : Ticket) (work : Work) (lines : List Message)
    → processes.coordinator.memory ≡ Some ledger →
    let before : Batch = batch limits early (begin_batch ledger processes.coordinator.disk) in
    let after : Batch =
    batch limits (early ++ Withdraw ticket ∷ late) (begin_batch ledger processes.coordinator.disk) in
    AllMayCome size processes.written (early ++ Withdraw ticket ∷ late)
    → withdrawn limits ticket (begin_work before.ledger) ≡ Ok work → HasPart after.sends lines
    → Runs sha limits size (record processes { coordinator = running_after after; written = processes.written ++ lines }) later
    → (slot : Slot) (version : LineVersion) → In version (later.coordinator.disk.line slot) → version.ticket ≡ ticket
    → ⊥

-- how a call ends a lease without a version of it: it withdraws it, retires its node, or is of a newer life of that node
abbrev pub CallEnds : Ledger → Call → Lease → Type 0
CallEnds ledger (Handle saying) lease = (ledger.gone saying.node.0 ≡ false)
    × (ledger.lives saying.node.0 < saying.life.0) × (lease.node ≡ saying.node) × (lease.life.0 < saying.life.0)
CallEnds ledger (Withdraw ticket) lease = lease.ticket ≡ ticket
CallEnds ledger (Prune slot) lease = ⊥
CallEnds ledger (Retire node) lease = lease.node ≡ node
CallEnds ledger Nudge lease = ⊥

-- so it is of each lease that an accepted call, among others, ended in one of these ways
abbrev pub EndedStaysOut : Type 0
EndedStaysOut = (sha : List ℕ → Digest) (limits : Limits) → IsFarm sha limits
    → (size : ℕ) (processes later : Processes) → Runs sha limits size (first_processes sha) processes
    → (ledger : Ledger) (early late : List Call) (call : Call) (lease : Lease) (work : Work) (lines : List Message)
    → processes.coordinator.memory ≡ Some ledger →
    let before : Batch = batch limits early (begin_batch ledger processes.coordinator.disk) in
    let after : Batch = batch limits (early ++ call ∷ late) (begin_batch ledger processes.coordinator.disk) in
    AllMayCome size processes.written (early ++ call ∷ late)
    → decided limits before.ledger call ≡ Ok work → In lease before.ledger.live → CallEnds before.ledger call lease
    → HasPart after.sends lines
    → Runs sha limits size (record processes { coordinator = running_after after; written = processes.written ++ lines }) later
    → (slot : Slot) (version : LineVersion) → In version (later.coordinator.disk.line slot)
    → version.ticket ≡ lease.ticket → ⊥

-- ---- and it is so of no others

-- the node made the ask, in its life or an older one
abbrev pub HasAsked : Node → Life → Ask → Type 0
HasAsked state life ask = (life.0 < state.life.0)
    ⊎ ((life ≡ state.life) × ((kept : KeptAsk) × (nth state.asks ask.0 ≡ Some kept)))

-- the processes wrote only what is saved, and granted only what was asked for
pub record AreHonest (processes : Processes) : Type 0 where
  pub tickets : (grant : Grant) → In (Told (told.Granted grant)) processes.written
      → grant.ticket.0 ≤ processes.coordinator.disk.ceiling
  pub versions : (node : NodeId) (life : Life) (ticket : Ticket) (versions : List Confirmed) (version : Confirmed)
      → In (Told (told.Committed node life ticket versions)) processes.written → In version versions
      → (index : ℕ) × (version.number ≡ index + 1)
      × (slice_get (processes.coordinator.disk.line version.slot) index
      ≡ Some (record { ticket = ticket; digest = version.digest }))
  pub leases : (ledger : Ledger) (lease : Lease) → processes.coordinator.memory ≡ Some ledger → In lease ledger.live
      → HasAsked (processes.nodes lease.node.0) lease.life lease.ask

-- others are the farm of no schedule: so the theorem above could not be proved of rules that write before they save, or
-- that hear what nobody said
abbrev pub OnlyHonestAreAFarm : Type 0
OnlyHonestAreAFarm = (sha : List ℕ → Digest) (limits : Limits) → IsFarm sha limits
    → (size : ℕ) (events : List Event) (processes : Processes)
    → IsFarmOf sha (scheduled sha limits size events) processes → AreHonest processes

-- ---- and processes can do all that a farm does

-- these processes, of which each line reached the network, are the farm
pub record ProcessesOf (farm : Farm) (processes : Processes) : Type 0 where
  pub disk : processes.coordinator.disk ≡ farm.saved
  pub memory : farm.down ≡ false → processes.coordinator.memory ≡ Some farm.ledger
  pub nodes : processes.nodes ≡ farm.nodes
  pub written : processes.written ≡ farm.pool

abbrev pub EveryFarmIsProcesses : Type 0
EveryFarmIsProcesses = (sha : List ℕ → Digest) (limits : Limits) (size : ℕ) (events : List Event)
    → (processes : Processes) × Runs sha limits size (first_processes sha) processes
    × ProcessesOf (scheduled sha limits size events) processes

-- ---- and what can be lost is

-- the processes later are these
abbrev pub CanBecome : (List ℕ → Digest) → Limits → ℕ → Processes → Processes → Type 0
CanBecome sha limits size processes later =
    (happened : Processes) × Happens sha limits size processes happened × (happened ≡ later)

module _ (sha : List ℕ → Digest) (limits : Limits) (size : ℕ) where
  -- whatever the processes, each of these losses may be what happens next
  pub record CanLose (processes : Processes) : Type 0 where
    -- of the lines of the coordinator's calls any part is all that reaches the network
    pub lines : (ledger : Ledger) (calls : List Call) (lines : List Message) →
        let after : Batch = batch limits calls (begin_batch ledger processes.coordinator.disk) in
        processes.coordinator.memory ≡ Some ledger → AllMayCome size processes.written calls
        → HasPart after.sends lines
        → CanBecome sha limits size processes
        (record processes { coordinator = running_after after; written = processes.written ++ lines })
    -- so it is of a node's accepted call
    pub node_lines : (node : NodeId) (call : NodeCall) (work : NodeWork) (lines : List Message) → IsNumber size node
        → MayReach processes.written node call
        → node_decided sha limits (record { node = node; nodes = size }) (processes.nodes node.0) call ≡ Ok work
        → HasPart work.sends lines
        → CanBecome sha limits size processes
        (record processes { nodes = put node.0 work.node processes.nodes; written = processes.written ++ lines })
    -- a node that begins a newer life isn't heard
    pub greeting : (node : NodeId) (life : Life) → IsNumber size node → (processes.nodes node.0).spent ≡ false
        → (processes.nodes node.0).life.0 < life.0 → life.0 ≤ limits.greatest
        → CanBecome sha limits size processes
        (record processes {
          nodes = put node.0 (has_life (processes.nodes node.0) life.0) processes.nodes;
          written = processes.written ++ [];
        })
    -- a node loses any content that it stores, and any version that it knows
    pub contents : (node : NodeId) (digest : Digest) → IsNumber size node → (happened : Processes)
        × Happens sha limits size processes happened × ((happened.nodes node.0).store digest ≡ None)
    pub versions : (node : NodeId) (slot : Slot) (number : ℕ) → IsNumber size node → (happened : Processes)
        × Happens sha limits size processes happened × ((happened.nodes node.0).known slot number ≡ None)

abbrev pub AllCanBeLost : Type 0
AllCanBeLost = (sha : List ℕ → Digest) (limits : Limits) (size : ℕ) (processes : Processes)
    → CanLose sha limits size processes
