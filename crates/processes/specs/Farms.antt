-- A farm of these programs: a coordinator over a record in files, and nodes over folders, of which some may have been taken
-- over (this project's own). Its premises are those of protocol's processes, in whose words it is told.
use Rattle.std.specs.Prelude.{◌≡◌, ◌⊎◌, ℕ, Bool, false, true, List, [], ◌∷◌, ◌++◌, Some, Result, Ok, ⊤}
use Rattle.std.specs.String.{string_bytes}
use Rattle.farmwire.specs.Lawful.{IsLawful}
use Rattle.farmwire.specs.Sealed.{Keys, IsSealed, key_in}
use Rattle.coordinator.specs.Seen.{Seen}
use Rattle.coordinator.specs.Settling.{TakesUp}
use Rattle.names.specs.Contents.{content_digest}
use Rattle.names.specs.declared.limits.TheConstants.{NODES}
use Rattle.names.specs.declared.number.NodeId.{NodeId}
use Rattle.events.specs.declared.answer.CoordRefusal.{CoordRefusal}
use Rattle.filekeeper.specs.Calls.{Called}
use Rattle.filekeeper.specs.Disks.{Files, IsAmid, MayLeave}
use Rattle.filekeeper.specs.Keepers.{Filed, FileLoads, FileSyncs, IsDurable, file_texts}
use Rattle.filekeeper.specs.Settled.{Holds}
use Rattle.nodefilter.specs.declared.filter.NodeFilter.{NodeFilter}
use Rattle.nodefilter.specs.declared.starting.Origin.{Origin}
use Rattle.nodefilter.specs.declared.starting.Started.{Started}
use Rattle.nodefilter.specs.Filters.{IsSettled}
use Rattle.nodefilter.specs.Rules as node
use Rattle.nodefilter.specs.Rules.{IsNodeOf, IsLeftOf, with_node, node_steps}
use Rattle.nodefilter.specs.Starts.{Begins}
use Rattle.nodefilter.specs.States.{seen}
use Rattle.nodestore.specs.Stores as store
use Rattle.nodestore.specs.Stores.{has_digest, any_bytes}
use Rattle.protocol.specs.Farm.{farm_limits}
use Rattle.protocol.specs.Hostile as hostile
use Rattle.protocol.specs.HostileProcesses.{RaidRuns, StaySafeAmong}
use Rattle.protocol.specs.Ledger.{Ledger, Work, begin_work, withdrawn}
use Rattle.protocol.specs.Lists.{In, put}
use Rattle.protocol.specs.Machine.{Message, LineVersion, HasPart}
use Rattle.protocol.specs.Names.{Slot, Ticket}
use Rattle.protocol.specs.Processes as process
use Rattle.protocol.specs.Processes.{Processes, StaySafe, AllMayCome, begin_batch, batch, running_after, first_processes}
use Rattle.protocol.specs.Safe.{Rising}
use Rattle.protocol.specs.World.{Node}
use Rattle.saverecord.specs.Logs.{saved_in}
use Rattle.saverecord.specs.Texts.{Texts}
use Rattle.coordinatorfilter.specs.Rules.{Falters, process_of, gone_with, with_coordinator, file_saves, filter_steps, batch_messages}
use Rattle.processes.specs.Served.{started_text}
use Rattle.services.specs.Says.{Offers, AreWritten}
use Rattle.services.specs.Served.{Steps, Settling, Answers, Batch}
use Rattle.services.specs.declared.settled.Settled.TheVariants.{Failed}
use Rattle.coordinatorfilter.specs.Written.{MakesLast}

abbrev pub texts_of : Filed → Texts
texts_of f = f.texts

-- the last life that a node's folder has
abbrev pub last_life : store.Filed → ℕ
last_life folder = folder.last.0

-- what a coordinator over files does with a line, how it makes answers last, and the messages of a batch
abbrev pub coordinator_steps : Keys → Steps (Seen Filed)
coordinator_steps keys = filter_steps file_saves FileLoads texts_of keys

abbrev pub coordinator_settles : Settling (Seen Filed)
coordinator_settles = MakesLast FileSyncs FileLoads texts_of file_texts

abbrev pub coordinator_messages : (keys : Keys) (limit : ℕ) (lines : List (List ℕ)) (text : List ℕ) (old new : Seen Filed)
    → Batch (coordinator_steps keys) coordinator_settles limit lines text old new → List Message
coordinator_messages = batch_messages file_saves FileLoads FileSyncs texts_of file_texts

-- the messages of a node's batch, and the node after it
abbrev pub node_messages : (limit : ℕ) (lines : List (List ℕ)) (text : List ℕ) (old new : NodeFilter store.Filed)
    → Batch (node_steps has_digest last_life any_bytes) IsSettled limit lines text old new → List Message
node_messages = node.batch_messages has_digest last_life any_bytes

abbrev pub node_after : (limit : ℕ) (old new : NodeFilter store.Filed) (before : Node) (lines answers : List (List ℕ))
    → Answers (node_steps has_digest last_life any_bytes) limit old lines answers new → Node
node_after = node.node_after has_digest last_life any_bytes

-- the protocol's processes that the programs are, the texts that these wrote, and the messages that whoever took nodes over
-- wrote
pub record Farm : Type 0 where
  pub processes : Processes
  pub texts : List (List ℕ)
  pub forged : List Message

-- one of them wrote this text too
abbrev pub wrote : List ℕ → Processes → Farm → Farm
wrote text processes farm = record farm { processes = processes; texts = farm.texts ++ text ∷ [] }

-- nothing was written
abbrev pub silent : Processes → Farm → Farm
silent processes farm = record farm { processes = processes }

-- and this message by others
abbrev pub forging : Message → Farm → Farm
forging message farm = record farm {
  processes = record farm.processes { written = farm.processes.written ++ message ∷ [] };
  forged = message ∷ farm.forged;
}

-- the keys of all nodes are known
abbrev pub known : (NodeId → List ℕ) → Keys
known keys node = Some (keys node)

-- these keys are among those of the farm
abbrev pub AreOf : (NodeId → List ℕ) → Keys → Type 0
AreOf keys own = (node : NodeId) (key : List ℕ) → own node ≡ Some key → known keys node ≡ Some key

-- from the first of these coordinators to the last it could make no answers last, to lines that were written
abbrev pub HasFaltered : (NodeId → List ℕ) → Farm → Seen Filed → Seen Filed → Type 0
HasFaltered keys farm first old = Falters (λ lines. AreWritten (known keys) lines farm.texts farm.forged) (known keys) first old

-- what one of the programs does, or whoever took nodes over, and the farm after it. Each node has a key of its own, and the
-- coordinator has all. Of the lines that come from outside those that open under these keys stand in texts that were
-- written, or are of messages that were forged: under the key of a node that was taken over, or under none
module _ (keys : NodeId → List ℕ) (taken : ℕ → Bool) where
  pub data Does (farm : Farm) : Farm → Type 0 where
    -- the coordinator answers lines that come together. So it shows what it decided of those before, if their answers
    -- couldn't be made to last
    Answers_lines : (limit : ℕ) (lines : List (List ℕ)) (text : List ℕ) (first old new : Seen Filed)
        → farm.processes.coordinator ≡ process_of texts_of first → HasFaltered keys farm first old
        → AreWritten (known keys) lines farm.texts farm.forged
        → (b : Batch (coordinator_steps (known keys)) coordinator_settles limit lines text old new)
        → Does farm (wrote text (with_coordinator farm.processes (process_of texts_of new) (coordinator_messages (known keys) limit lines text old new b)) farm)
    -- it can't make its answers last, and says so: whether its disk has what it decided shows later
    Fails_to_save : (limit : ℕ) (lines : List (List ℕ)) (text : List ℕ) (first old new : Seen Filed) (restart : Result ⊤ CoordRefusal)
        → farm.processes.coordinator ≡ process_of texts_of first → HasFaltered keys farm first old
        → AreWritten (known keys) lines farm.texts farm.forged
        → (b : Batch (coordinator_steps (known keys)) coordinator_settles limit lines text old new) → b.settled ≡ Failed restart
        → Does farm (wrote text farm.processes farm)
    -- it is killed when it has answered some, but written nothing
    Is_killed : (limit : ℕ) (lines answers : List (List ℕ)) (old new : Seen Filed)
        → farm.processes.coordinator ≡ process_of texts_of old → AreWritten (known keys) lines farm.texts farm.forged
        → Answers (coordinator_steps (known keys)) limit old lines answers new
        → Does farm (silent (with_coordinator farm.processes (gone_with new.keeper.texts) []) farm)
    -- it is killed or the power fails, at any moment of this, or while it is idle, from when all that it kept lasted.
    -- Opening the files that this may leave gives these texts
    Crashes : (limit : ℕ) (lines : List (List ℕ)) (text : List ℕ) (first old new : Seen Filed) (moment : List Called) (files : Files) (left : Texts)
        → farm.processes.coordinator ≡ process_of texts_of first → file_texts first.keeper ≡ first.keeper.texts → IsDurable first.keeper
        → HasFaltered keys farm first old → AreWritten (known keys) lines farm.texts farm.forged
        → (new ≡ old) ⊎ Batch (coordinator_steps (known keys)) coordinator_settles limit lines text old new
        → IsAmid first.keeper.calls moment new.keeper.calls → MayLeave moment files → Holds left files
        → Does farm (silent (with_coordinator farm.processes (gone_with left) []) farm)
    -- it starts from what its files hold
    Starts : (keeper : Filed) (new : Seen Filed) → farm.processes.coordinator.disk ≡ saved_in keeper.texts
        → TakesUp FileLoads keeper.texts keeper new
        → Does farm (wrote started_text (with_coordinator farm.processes (process_of texts_of new) []) farm)
    -- the same of a node that wasn't taken over
    Node_answers_lines : (limit : ℕ) (lines : List (List ℕ)) (text : List ℕ) (old new : NodeFilter store.Filed)
        → taken (seen old).me.0 ≡ false → AreOf keys (seen old).keys → IsNodeOf farm.processes (seen old)
        → AreWritten (known keys) lines farm.texts farm.forged
        → (b : Batch (node_steps has_digest last_life any_bytes) IsSettled limit lines text old new)
        → Does farm (wrote text (with_node farm.processes (seen old).me (node_after limit old b.answered_to (farm.processes.nodes (seen old).me.0) lines b.answers b.answered)
        (node_messages limit lines text old new b)) farm)
    Node_is_killed : (limit : ℕ) (lines answers : List (List ℕ)) (old new : NodeFilter store.Filed)
        → taken (seen old).me.0 ≡ false → AreOf keys (seen old).keys → IsNodeOf farm.processes (seen old)
        → AreWritten (known keys) lines farm.texts farm.forged
        → (h : Answers (node_steps has_digest last_life any_bytes) limit old lines answers new)
        → Does farm (silent (with_node farm.processes (seen old).me (node_after limit old new (farm.processes.nodes (seen old).me.0) lines answers h) []) farm)
    -- it starts from what its folder has, and says so
    Node_starts : (origin : Origin store.Filed) (started : Started store.Filed) → taken origin.me.0 ≡ false
        → AreOf keys (key_in origin.keys) → IsLeftOf farm.processes origin
        → (begins : Begins has_digest last_life origin started)
        → Does farm (wrote (string_bytes started.greeting) (with_node farm.processes origin.me (seen started.filter).node begins.done.sends) farm)
    -- whoever took nodes over writes the line of any message that isn't under another node's key
    Is_forged : (message : Message) → (hostile.IsSealed taken message → ⊥) → IsLawful message → Does farm (forging message farm)
    -- and makes of such a node, its memory and its disk, whatever they like
    Is_turned : (node : NodeId) (state : Node) → taken node.0 ≡ true
        → Does farm (silent (record farm.processes { nodes = put node.0 state farm.processes.nodes }) farm)

  -- they do one thing after the other
  pub data Comes_to (farm : Farm) : Farm → Type 0 where
    Stays : Comes_to farm farm
    And_then : (next later : Farm) → Comes_to farm next → Does next later → Comes_to farm later

-- what opens in these texts is one of these messages
abbrev pub AreTold : List (List ℕ) → Keys → List Message → Type 0
AreTold texts keys messages = (text sealed : List ℕ) (message : Message) → In text texts → Offers text sealed
    → IsSealed keys sealed message → In message messages

-- the farm's are messages that its processes wrote, or that were forged
pub record IsTold (keys : NodeId → List ℕ) (farm : Farm) : Type 0 where
  pub texts : AreTold farm.texts (known keys) farm.processes.written
  pub forged : (message : Message) → In message farm.forged → In message farm.processes.written

-- so, whatever nodes were taken over, they are processes of a raided farm, and the texts say no other messages
abbrev pub EveryFarmIsARun : Type 0
EveryFarmIsARun = (keys : NodeId → List ℕ) (taken : ℕ → Bool) (farm later : Farm) → IsTold keys farm
    → Comes_to keys taken farm later
    → RaidRuns taken content_digest farm_limits NODES farm.processes later.processes × IsTold keys later

-- a farm where nothing happened
abbrev pub first_farm : Farm
first_farm = record { processes = first_processes content_digest; texts = []; forged = [] }

-- whatever nodes were taken over, the others stay safe, and tickets rise along each line
abbrev pub EveryRaidedFarmStaysSafe : Type 0
EveryRaidedFarmStaysSafe = (keys : NodeId → List ℕ) (taken : ℕ → Bool) (farm later : Farm)
    → Comes_to keys taken first_farm farm → Comes_to keys taken farm later
    → StaySafeAmong taken content_digest farm_limits farm.processes later.processes
    × ((slot : Slot) → Rising (later.processes.coordinator.disk.line slot))

-- and what the operator withdrew, among other calls, is on no line from then on
abbrev pub EveryRaidedFarmKeepsOut : Type 0
EveryRaidedFarmKeepsOut = (keys : NodeId → List ℕ) (taken : ℕ → Bool) (farm next later : Farm)
    → Comes_to keys taken first_farm farm
    → (ledger : Ledger) (early late : List process.Call) (ticket : Ticket) (work : Work) (lines : List Message)
    → farm.processes.coordinator.memory ≡ Some ledger →
    let before : process.Batch = batch farm_limits early (begin_batch ledger farm.processes.coordinator.disk) in
    let after : process.Batch =
    batch farm_limits (early ++ process.Withdraw ticket ∷ late) (begin_batch ledger farm.processes.coordinator.disk) in
    AllMayCome NODES farm.processes.written (early ++ process.Withdraw ticket ∷ late)
    → withdrawn farm_limits ticket (begin_work before.ledger) ≡ Ok work → HasPart after.sends lines
    → next.processes ≡ record farm.processes { coordinator = running_after after; written = farm.processes.written ++ lines }
    → IsTold keys next → Comes_to keys taken next later
    → (slot : Slot) (version : LineVersion) → In version (later.processes.coordinator.disk.line slot) → version.ticket ≡ ticket
    → ⊥

-- the headline, of a farm at some time and later of which no node was taken over. Its premise on the keys is that of each
-- step
abbrev pub EveryFarmStaysSafe : Type 0
EveryFarmStaysSafe = (keys : NodeId → List ℕ) (farm later : Farm) → Comes_to keys (λ node. false) first_farm farm
    → Comes_to keys (λ node. false) farm later
    → StaySafe content_digest farm.processes later.processes
