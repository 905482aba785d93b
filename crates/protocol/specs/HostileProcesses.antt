-- The processes of a farm of which some nodes were taken over: what `Processes.antt` says of processes, and lines that are
-- under no honest node's key beside. Of the keys its premise is that no other line opens under an honest node's key than
-- what that node or the coordinator wrote under it.
use Rattle.std.specs.Prelude.{◌≡◌, ◌≢◌, ℕ, ◌+◌, ◌≤◌, Bool, true, false, List, [], ◌∷◌, ◌++◌, ◌⊎◌, Some, None, slice_get, Ok}
use Rattle.farm_base.specs.declared.message.FromCoord.TheVariants as told
use Rattle.protocol.specs.Lists.{In, IsFrontOf, put}
use Rattle.protocol.specs.Names.{Slot, is_alone, NodeId, Life, Ask, Ticket, Digest, Want, FolderName, tenure_wants}
use Rattle.protocol.specs.Machine.{Grant, Confirmed, LineVersion, Message, Told, Has, acquire, line}
use Rattle.protocol.specs.Ledger.{Limits, Ledger, Work, begin_work, withdrawn}
use Rattle.protocol.specs.World.{Node, World, start}
use Rattle.protocol.specs.Safe.{HoldsContent}
use Rattle.protocol.specs.Lawful.{IsNumber}
use Rattle.protocol.specs.Follows.{IsFarm, Agrees}
use Rattle.protocol.specs.Hostile.{IsSealed, Raids}
use Rattle.protocol.specs.Machine.{HasPart}
use Rattle.protocol.specs.Processes.{Coordinator, Processes, Call, Withdraw, AllMayCome, Batch, begin_batch, batch, running_after, CoordinatorDoes, NodeDoes, IsOfLeases, IsNodeOf, Executes, first_processes}

-- a line that parses: an ask for a tenure is for one SHARED folder, writable
abbrev pub IsFit : Message → Type 0
IsFit message = (node : NodeId) (life : Life) (ask : Ask) (wants : List Want) → message ≡ acquire node life ask wants true
    → (folder : FolderName) × (wants ≡ tenure_wants folder)

module _ (taken : ℕ → Bool) (sha : List ℕ → Digest) (limits : Limits) where
  -- one process does something, or whoever took nodes over does
  pub data RaidHappens (size : ℕ) (processes : Processes) : Processes → Type 0 where
    Coordinator_does : (lines : List Message) (after : Coordinator)
        → CoordinatorDoes limits size processes.written processes.coordinator lines after
        → RaidHappens size processes
        (record processes { coordinator = after; written = processes.written ++ lines })
    Node_does : (node : NodeId) (lines : List Message) (after : Node) → IsNumber size node → taken node.0 ≡ false
        → NodeDoes sha limits processes.written node (processes.nodes node.0) lines after
        → RaidHappens size processes
        (record processes { nodes = put node.0 after processes.nodes; written = processes.written ++ lines })
    -- any line that parses and is under no honest node's key
    Is_forged : (message : Message) → (IsSealed taken message → ⊥) → IsFit message
        → RaidHappens size processes (record processes { written = processes.written ++ message ∷ [] })
    -- a taken-over node has whatever it likes
    Is_turned : (node : NodeId) (state : Node) → taken node.0 ≡ true
        → RaidHappens size processes (record processes { nodes = put node.0 state processes.nodes })

  pub data RaidRuns (size : ℕ) : Processes → Processes → Type 0 where
    Rests : (processes : Processes) → RaidRuns size processes processes
    Goes_on : (processes middle later : Processes) → RaidRuns size processes middle
        → RaidHappens size middle later → RaidRuns size processes later

  -- the processes are this world: the record on the disk is of its machine, and so is the ledger in memory
  pub record IsWorldOf (world : World) (processes : Processes) : Type 0 where
    pub up : world.down ≡ None
    pub lines : (slot : Slot) → processes.coordinator.disk.line slot ≡ line (sha []) world.machine slot
    pub gone : processes.coordinator.disk.gone ≡ world.machine.gone
    pub ceiling : world.machine.last ≤ processes.coordinator.disk.ceiling
    pub memory : (ledger : Ledger) → processes.coordinator.memory ≡ Some ledger
        → Agrees limits.empty world.pool world.machine ledger
    pub nodes : (number : ℕ) → taken number ≡ false → IsNodeOf sha (world.nodes number) (processes.nodes number)
    pub written : (message : Message) → IsOfLeases message → In message processes.written → In message world.pool

  -- the worlds of processes, and of the same processes later
  pub record AreRaided (processes later : Processes) : Type 0 where
    pub world : World
    pub later_world : World
    pub raids : Raids taken sha (start sha) world
    pub more : Raids taken sha world later_world
    pub before : IsWorldOf world processes
    pub after : IsWorldOf later_world later

  -- so, in the processes' words
  pub record StaySafeAmong (processes later : Processes) : Type 0 where
    -- an honest node then and an honest node later hold one content for a version, or the two contents are a collision
    pub contents : (node node' : NodeId) (slot : Slot) (number : ℕ) (content content' : List ℕ)
        → taken node.0 ≡ false
        → taken node'.0 ≡ false
        → HoldsContent (processes.nodes node.0) slot number content
        → HoldsContent (later.nodes node'.0) slot number content'
        → (content ≡ content') ⊎ ((content ≢ content') × (sha content ≡ sha content'))
    -- no two executions of honest nodes have one PRIVATE instance, or one tenure's slot
    pub alone : (node node' : NodeId) (grant grant' : Grant) (wants wants' : List Want) (slot : Slot)
        → taken node.0 ≡ false
        → taken node'.0 ≡ false
        → Executes (processes.nodes node.0) grant wants
        → Executes (processes.nodes node'.0) grant' wants'
        → Has grant slot
        → Has grant' slot
        → is_alone slot ≡ true
        → (node ≡ node') × (grant ≡ grant')
    -- a line on the disk only grows, and a retired node stays so
    pub lines : (slot : Slot) → IsFrontOf (processes.coordinator.disk.line slot) (later.coordinator.disk.line slot)
    pub gone : (node : NodeId) → processes.coordinator.disk.gone node.0 ≡ true → later.coordinator.disk.gone node.0 ≡ true
    -- what an honest node was told to be committed stands on the disk, and what it was told to be fenced on no line
    pub confirmed : (node : NodeId) (life : Life) (ticket : Ticket) (versions : List Confirmed) (version : Confirmed)
        → taken node.0 ≡ false
        → In (Told (told.Committed node life ticket versions)) processes.written → In version versions
        → (index : ℕ) × (version.number ≡ index + 1)
        × (slice_get (later.coordinator.disk.line version.slot) index
        ≡ Some (record { ticket = ticket; digest = version.digest }))
    pub fenced : (node : NodeId) (life : Life) (ticket : Ticket) → taken node.0 ≡ false
        → In (Told (told.Fenced node life ticket)) processes.written → (slot : Slot) (version : LineVersion)
        → In version (later.coordinator.disk.line slot) → version.ticket ≡ ticket → ⊥

-- whatever nodes were taken over, the processes are a raided farm
abbrev pub RaidedProcessesAreAFarm : Type 0
RaidedProcessesAreAFarm = (taken : ℕ → Bool) (sha : List ℕ → Digest) (limits : Limits) → IsFarm sha limits
    → (size : ℕ) (processes later : Processes)
    → RaidRuns taken sha limits size (first_processes sha) processes
    → RaidRuns taken sha limits size processes later
    → AreRaided taken sha limits processes later

abbrev pub RaidedProcessesStaySafe : Type 0
RaidedProcessesStaySafe = (taken : ℕ → Bool) (sha : List ℕ → Digest) (limits : Limits) → IsFarm sha limits
    → (size : ℕ) (processes later : Processes)
    → RaidRuns taken sha limits size (first_processes sha) processes
    → RaidRuns taken sha limits size processes later
    → StaySafeAmong taken sha limits processes later

-- and what the operator withdrew is on no line of the disk from then on, whoever says what
abbrev pub RaidedWithdrawnStaysOut : Type 0
RaidedWithdrawnStaysOut = (taken : ℕ → Bool) (sha : List ℕ → Digest) (limits : Limits) → IsFarm sha limits
    → (size : ℕ) (processes later : Processes) → RaidRuns taken sha limits size (first_processes sha) processes
    → (ledger : Ledger) (early late : List Call) (ticket : Ticket) (work : Work) (lines : List Message)
    → processes.coordinator.memory ≡ Some ledger →
    let before : Batch = batch limits early (begin_batch ledger processes.coordinator.disk) in
    let after : Batch =
    batch limits (early ++ Withdraw ticket ∷ late) (begin_batch ledger processes.coordinator.disk) in
    AllMayCome size processes.written (early ++ Withdraw ticket ∷ late)
    → withdrawn limits ticket (begin_work before.ledger) ≡ Ok work → HasPart after.sends lines
    → RaidRuns taken sha limits size
    (record processes { coordinator = running_after after; written = processes.written ++ lines }) later
    → (slot : Slot) (version : LineVersion) → In version (later.coordinator.disk.line slot) → version.ticket ≡ ticket
    → ⊥
