-- Several coordinators over one store: any number of them run at once, on different machines, and none knows whether
-- another is dead. The store holds the record and the number of its writes, and takes a request only where that number
-- is still the one that the request names (compare-and-set). Whatever a coordinator decides on the calls that it took is
-- one request, also where nothing of the record changed, and only when it has heard that the store took it are its lines
-- written. A request may be lost, come late, or come after its coordinator is gone; a read may give what the store held
-- before; a process may pause anywhere for any time. Premises: the store's answers are true, and it never goes back; the
-- others are those of `Processes.antt`, but that one process at a time is the coordinator.
use Rattle.std.specs.Prelude.{◌≡◌, ℕ, ◌+◌, Bool, if◌then◌else◌, List, [], ◌∷◌, ◌++◌, Option, Some, None, Ok, ⊤}
use Rattle.protocol.specs.Lists.{In, put}
use Rattle.protocol.specs.Names.{Slot, NodeId, Life, Ticket, Digest}
use Rattle.protocol.specs.Machine.{LineVersion, Message, Told, HasPart}
use Rattle.farm_base.specs.declared.message.FromCoord.TheVariants as told
use Rattle.protocol.specs.Ledger.{Limits, Ledger, Work, begin_work, withdrawn, Saved, saves, reads}
use Rattle.protocol.specs.Ledger as ledgers
use Rattle.protocol.specs.World.{Node, first_node}
use Rattle.protocol.specs.Lawful.{IsNumber}
use Rattle.protocol.specs.Follows.{IsFarm}
use Rattle.protocol.specs.Processes.{Call, Withdraw, AllMayCome, Batch, begin_batch, batch, NodeDoes, Processes, Runs, first_processes, running_after, AreScheduled, StaySafe}

-- what the store holds: a record, the whole ledger of its writer where that put it there too, and how often it was
-- written
pub record Store : Type 0 where
  pub saved : Saved
  pub whole : Option Ledger
  pub revision : ℕ

-- what a coordinator goes on from: its ledger, and the record and revision that it read or wrote last
pub record Held : Type 0 where
  pub ledger : Ledger
  pub saved : Saved
  pub revision : ℕ

-- what it asks of the store: to take what comes of these calls, where nobody has written since
pub record Request : Type 0 where
  pub held : Held
  pub calls : List Call
  -- it puts its whole ledger there too
  pub whole : Bool

-- one of the coordinators: stopped, running, or waiting for what comes of its request
pub data Member : Type 0 where
  Stopped : Member
  Idle : (held : Held) → Member
  Waits : (request : Request) → Member

-- the store and what it held before, each request that was ever sent to it, those that it took, the coordinators, the
-- nodes, and each line that ever reached the network
pub record Cluster : Type 0 where
  pub store : Store
  pub past : List Store
  pub requests : List Request
  pub taken : List Request
  pub members : ℕ → Member
  pub nodes : ℕ → Node
  pub written : List Message

-- the store, now or before: what a read may give
abbrev pub readable : Cluster → List Store
readable cluster = cluster.store ∷ cluster.past

-- a coordinator that starts from this, as one coordinator does from its disk: of the leases it has those that are saved
abbrev pub started : Store → Held
started store = record { ledger = reads store.saved; saved = store.saved; revision = store.revision }

-- one that takes over all leases and parked asks
abbrev pub taken_over : Store → Ledger → Held
taken_over store ledger = record { ledger = ledger; saved = store.saved; revision = store.revision }

-- one coordinator has become this
abbrev pub becomes : ℕ → Member → Cluster → Cluster
becomes who member cluster = record cluster { members = put who member cluster.members }

module _ (limits : Limits) where
  -- what comes of a request's calls
  abbrev pub outcome : Request → Batch
  outcome request = batch limits request.calls (begin_batch request.held.ledger request.held.saved)

  -- its coordinator, once the store took it
  abbrev pub goes_on : Request → Held
  goes_on request = record {
    ledger = (outcome request).ledger;
    saved = (outcome request).to_save;
    revision = request.held.revision + 1;
  }

  -- the store that takes it
  abbrev pub stored : Request → Store → Store
  stored request store = record {
    saved = (outcome request).to_save;
    whole = if request.whole then Some (outcome request).ledger else None;
    revision = store.revision + 1;
  }

  abbrev pub takes : Request → Cluster → Cluster
  takes request cluster = record cluster {
    store = stored request cluster.store;
    past = cluster.store ∷ cluster.past;
    taken = request ∷ cluster.taken;
  }

  module _ (sha : List ℕ → Digest) where
    -- one thing happens
    pub data Happens (size : ℕ) (cluster : Cluster) : Cluster → Type 0 where
      -- a coordinator starts, whether or not others run: from what the store holds, or held before, and nothing else
      Starts : (who : ℕ) (read : Store) → In read (readable cluster)
          → Happens size cluster (becomes who (Idle (started read)) cluster)
      -- the same, where the whole ledger is there
      Takes_over : (who : ℕ) (read : Store) (ledger : Ledger) → In read (readable cluster) → read.whole ≡ Some ledger
          → Happens size cluster (becomes who (Idle (taken_over read ledger)) cluster)
      -- it takes one call or several, and sends the store what comes of them. Nothing is written
      Asks : (who : ℕ) (held : Held) (calls : List Call) (whole : Bool) → cluster.members who ≡ Idle held
          → AllMayCome size cluster.written calls
          → Happens size cluster
          (record cluster {
            members = put who (Waits (record { held = held; calls = calls; whole = whole })) cluster.members;
            requests = record { held = held; calls = calls; whole = whole } ∷ cluster.requests;
          })
      -- a request comes to the store, however late, and names its present revision
      Takes : (request : Request) → In request cluster.requests → request.held.revision ≡ cluster.store.revision
          → Happens size cluster (takes request cluster)
      -- its coordinator hears so, and writes now. Of that a part is lost, if it is killed while it writes
      Hears : (who : ℕ) (request : Request) (lines : List Message) → cluster.members who ≡ Waits request
          → In request cluster.taken → HasPart (outcome request).sends lines
          → Happens size cluster
          (record cluster {
            members = put who (Idle (goes_on request)) cluster.members;
            written = cluster.written ++ lines;
          })
      -- it doesn't hear so: its request was refused, or it waited too long and doesn't know. It writes nothing, and
      -- goes on as before the calls
      Drops : (who : ℕ) (request : Request) → cluster.members who ≡ Waits request
          → Happens size cluster (becomes who (Idle request.held) cluster)
      -- it is killed, or stops by itself, at any place
      Stops : (who : ℕ) → Happens size cluster (becomes who Stopped cluster)
      -- a node does what it does
      Node_does : (node : NodeId) (lines : List Message) (after : Node) → IsNumber size node
          → NodeDoes sha limits cluster.written node (cluster.nodes node.0) lines after
          → Happens size cluster
          (record cluster { nodes = put node.0 after cluster.nodes; written = cluster.written ++ lines })

    pub data Comes_to (size : ℕ) (cluster : Cluster) : Cluster → Type 0 where
      Stays : Comes_to size cluster cluster
      And_then : (middle later : Cluster) → Comes_to size cluster middle → Happens size middle later
          → Comes_to size cluster later

-- nothing is in the store, no coordinator runs, and nothing was written
abbrev pub first_cluster : (List ℕ → Digest) → Cluster
first_cluster sha = record {
  store = record { saved = saves ledgers.opening; whole = None; revision = 0 };
  past = [];
  requests = [];
  taken = [];
  members = λ who. Stopped;
  nodes = λ node. first_node sha;
  written = [];
}

-- ---- several coordinators are one

-- these processes have the cluster's nodes, its record on the disk, and wrote all that it wrote. They may have written
-- more: lines of a request that was taken, whose coordinator hasn't heard so yet, or never will
pub record IsOneOf (cluster : Cluster) (processes : Processes) : Type 0 where
  pub disk : processes.coordinator.disk ≡ cluster.store.saved
  pub nodes : processes.nodes ≡ cluster.nodes
  pub written : (message : Message) → In message cluster.written → In message processes.written
  -- whoever takes over the whole ledger has that of the one coordinator, which runs: so that is no restart
  pub whole : (ledger : Ledger) → cluster.store.whole ≡ Some ledger → processes.coordinator.memory ≡ Some ledger

-- processes of one coordinator that come to the cluster's, and from there to the later cluster's
pub record AreOne (sha : List ℕ → Digest) (limits : Limits) (size : ℕ) (cluster later : Cluster) : Type 0 where
  pub processes : Processes
  pub after : Processes
  pub runs : Runs sha limits size (first_processes sha) processes
  pub more : Runs sha limits size processes after
  pub now : IsOneOf cluster processes
  pub then_too : IsOneOf later after

abbrev pub SeveralAreOne : Type 0
SeveralAreOne = (sha : List ℕ → Digest) (limits : Limits) (size : ℕ) (cluster later : Cluster)
    → Comes_to limits sha size (first_cluster sha) cluster → Comes_to limits sha size cluster later
    → AreOne sha limits size cluster later

-- ---- so what is proved of processes is so of several coordinators

-- the cluster as processes of which no coordinator runs: its record, nodes and lines
abbrev pub seen : Cluster → Processes
seen cluster = record {
  coordinator = record { memory = None; disk = cluster.store.saved };
  nodes = cluster.nodes;
  written = cluster.written;
}

abbrev pub SeveralStaySafe : Type 0
SeveralStaySafe = (sha : List ℕ → Digest) (limits : Limits) → IsFarm sha limits
    → (size : ℕ) (cluster later : Cluster) → Comes_to limits sha size (first_cluster sha) cluster
    → Comes_to limits sha size cluster later → StaySafe sha (seen cluster) (seen later)

-- the cluster, and the same cluster later, is the farm of a schedule
abbrev pub SeveralAreTheFarm : Type 0
SeveralAreTheFarm = (sha : List ℕ → Digest) (limits : Limits) (size : ℕ) (cluster later : Cluster)
    → Comes_to limits sha size (first_cluster sha) cluster → Comes_to limits sha size cluster later
    → AreScheduled sha limits size (seen cluster) (seen later)

-- the ticket of a lease that was withdrawn, among other calls of a request that the store took, is on no line
abbrev pub WithdrawnStaysOutOfAll : Type 0
WithdrawnStaysOutOfAll = (sha : List ℕ → Digest) (limits : Limits) → IsFarm sha limits
    → (size : ℕ) (cluster : Cluster) → Comes_to limits sha size (first_cluster sha) cluster
    → (request : Request) → In request cluster.taken
    → (early late : List Call) (ticket : Ticket) (work : Work) → request.calls ≡ early ++ Withdraw ticket ∷ late
    → withdrawn limits ticket
    (begin_work (batch limits early (begin_batch request.held.ledger request.held.saved)).ledger)
    ≡ Ok work
    → (slot : Slot) (version : LineVersion) → In version (cluster.store.saved.line slot) → version.ticket ≡ ticket → ⊥

-- ---- and several can do all that one does

-- this cluster is the processes, and its coordinator 0 theirs
pub record IsClusterOf (processes : Processes) (cluster : Cluster) : Type 0 where
  pub disk : cluster.store.saved ≡ processes.coordinator.disk
  pub nodes : cluster.nodes ≡ processes.nodes
  pub written : cluster.written ≡ processes.written
  pub memory : (ledger : Ledger) → processes.coordinator.memory ≡ Some ledger
      → cluster.members 0 ≡ Idle (record { ledger = ledger; saved = cluster.store.saved; revision = cluster.store.revision })

abbrev pub OneIsSeveral : Type 0
OneIsSeveral = (sha : List ℕ → Digest) (limits : Limits) (size : ℕ) (processes : Processes)
    → Runs sha limits size (first_processes sha) processes
    → (cluster : Cluster) × Comes_to limits sha size (first_cluster sha) cluster × IsClusterOf processes cluster

-- whatever others did and do, from what the store holds now this coordinator can decide on the calls that come: it gets
-- its request taken, and all lines written
pub record CanDo (sha : List ℕ → Digest) (limits : Limits) (size : ℕ) (cluster : Cluster) (who : ℕ) (request : Request)
    : Type 0 where
  pub later : Cluster
  pub comes : Comes_to limits sha size cluster later
  pub goes_on : later.members who ≡ Idle (goes_on limits request)
  pub saved : later.store ≡ stored limits request cluster.store
  pub written : later.written ≡ cluster.written ++ (outcome limits request).sends

-- as one that starts from the record, or as one that takes over all leases and parked asks where the store has them
abbrev pub AnyCanTakeOver : Type 0
AnyCanTakeOver = (sha : List ℕ → Digest) (limits : Limits) (size : ℕ) (cluster : Cluster) (who : ℕ)
    (calls : List Call) (whole : Bool)
    → AllMayCome size cluster.written calls
    → CanDo sha limits size cluster who (record { held = started cluster.store; calls = calls; whole = whole })
    × ((ledger : Ledger) → cluster.store.whole ≡ Some ledger
    → CanDo sha limits size cluster who
    (record { held = taken_over cluster.store ledger; calls = calls; whole = whole }))

-- ---- a take-over of the whole ledger is no restart

module _ (limits : Limits) (sha : List ℕ → Digest) where
  -- nobody starts from the record alone, once something was written there
  abbrev pub KeepsLeases : (size : ℕ) (cluster later : Cluster) → Happens limits sha size cluster later → Type 0
  KeepsLeases size cluster later (Starts who read i) = read.revision ≡ 0
  KeepsLeases size cluster later (Takes_over who read ledger i whole) = ⊤
  KeepsLeases size cluster later (Asks who held calls whole at may) = ⊤
  KeepsLeases size cluster later (Takes request i now) = ⊤
  KeepsLeases size cluster later (Hears who request lines at i part) = ⊤
  KeepsLeases size cluster later (Drops who request at) = ⊤
  KeepsLeases size cluster later (Stops who) = ⊤
  KeepsLeases size cluster later (Node_does node lines after number does) = ⊤

  pub data Comes_keeping (size : ℕ) (cluster : Cluster) : Cluster → Type 0 where
    Stays_kept : Comes_keeping size cluster cluster
    And_kept : (middle later : Cluster) → Comes_keeping size cluster middle
        → (happens : Happens limits sha size middle later) → KeepsLeases size middle later happens
        → Comes_keeping size cluster later

  -- one coordinator that is never killed, and whose saves never fail, and the nodes
  pub data RunsOn (size : ℕ) (processes : Processes) : Processes → Type 0 where
    Stays_up : RunsOn size processes processes
    Works_on : (middle : Processes) (ledger : Ledger) (calls : List Call) → RunsOn size processes middle
        → middle.coordinator.memory ≡ Some ledger → AllMayCome size middle.written calls
        → RunsOn size processes
        (record middle {
          coordinator = running_after (batch limits calls (begin_batch ledger middle.coordinator.disk));
          written = middle.written ++ (batch limits calls (begin_batch ledger middle.coordinator.disk)).sends;
        })
    Node_goes_on : (middle : Processes) (node : NodeId) (lines : List Message) (after : Node)
        → RunsOn size processes middle → IsNumber size node
        → NodeDoes sha limits middle.written node (middle.nodes node.0) lines after
        → RunsOn size processes
        (record middle { nodes = put node.0 after middle.nodes; written = middle.written ++ lines })

-- the coordinator of a new farm has started
abbrev pub started_processes : (List ℕ → Digest) → Processes
started_processes sha = record (first_processes sha) {
  coordinator = record { memory = Some (reads (saves ledgers.opening)); disk = saves ledgers.opening };
}

-- processes of one coordinator that starts once, and never stops
pub record AreOneThroughout (sha : List ℕ → Digest) (limits : Limits) (size : ℕ) (cluster later : Cluster)
    : Type 0 where
  pub processes : Processes
  pub after : Processes
  pub runs : RunsOn limits sha size (started_processes sha) processes
  pub more : RunsOn limits sha size processes after
  pub now : IsOneOf cluster processes
  pub then_too : IsOneOf later after

abbrev pub TakeOversAreNoRestarts : Type 0
TakeOversAreNoRestarts = (sha : List ℕ → Digest) (limits : Limits) (size : ℕ) (cluster later : Cluster)
    → Comes_keeping limits sha size (first_cluster sha) cluster → Comes_keeping limits sha size cluster later
    → AreOneThroughout sha limits size cluster later

-- ---- what changes nothing has to be a request too

module _ (limits : Limits) (sha : List ℕ → Digest) where
  -- what could happen if answers that change nothing, neither the ledger nor the record, needed no request: it would be
  -- enough that at the moment of writing them nobody has written to the store since
  pub data HappensUnasked (size : ℕ) (cluster : Cluster) : Cluster → Type 0 where
    By_the_rules : (later : Cluster) → Happens limits sha size cluster later → HappensUnasked size cluster later
    Answers : (who : ℕ) (held : Held) (calls : List Call) (lines : List Message) → cluster.members who ≡ Idle held
        → AllMayCome size cluster.written calls → held.revision ≡ cluster.store.revision
        → (batch limits calls (begin_batch held.ledger held.saved)).ledger ≡ held.ledger
        → (batch limits calls (begin_batch held.ledger held.saved)).to_save ≡ held.saved
        → HasPart (batch limits calls (begin_batch held.ledger held.saved)).sends lines
        → HappensUnasked size cluster (record cluster { written = cluster.written ++ lines })

  pub data Comes_unasked (size : ℕ) (cluster : Cluster) : Cluster → Type 0 where
    Stays_so : Comes_unasked size cluster cluster
    And_so : (middle later : Cluster) → Comes_unasked size cluster middle → HappensUnasked size middle later
        → Comes_unasked size cluster later

-- then a commit that was fenced could stand on a line
pub record FencedIsCommitted : Type 0 where
  pub sha : List ℕ → Digest
  pub limits : Limits
  pub farm : IsFarm sha limits
  pub cluster : Cluster
  pub comes : Comes_unasked limits sha 1 (first_cluster sha) cluster
  pub node : NodeId
  pub life : Life
  pub ticket : Ticket
  pub fenced : In (Told (told.Fenced node life ticket)) cluster.written
  pub slot : Slot
  pub version : LineVersion
  pub on_line : In version (cluster.store.saved.line slot)
  pub of_ticket : version.ticket ≡ ticket
