-- The world: the machine, every message ever sent, and the nodes (docs/PROTOCOL.md, "The world").
use Rattle.std.specs.Prelude.{◌≡◌, ◌≢◌, ℕ, ◌+◌, Bool, true, false, ◌==◌, if◌then◌else◌, List, [], ◌∷◌, ◌++◌, length, ◌⊎◌, Option, Some, None}
use Rattle.farm_base.specs.Kinds.{is_tenure}
use Rattle.protocol.specs.Lists.{In, put, nth, set_nth}
use Rattle.protocol.specs.Names.{Slot, Shared, slot_eq, digest_eq, NodeId, Life, Ask, Ticket, Digest, Want, FolderName, wants_shared, tenure_wants}
use Rattle.protocol.specs.Machine.{GrantedSlot, Grant, News, Confirmed, Message, Told, Fetches, Blob, hello, acquire, commit, release, Machine, Step, Steps, Says, written, slots_of}
use Rattle.farm_base.specs.declared.message.FromCoord.TheVariants as told
pub use Rattle.farm_base.specs.declared.message.Why.{Why}
pub use Rattle.farm_base.specs.declared.message.FromCoord.{FromCoord}
pub use Rattle.events.specs.declared.answer.How.{How}
pub use Rattle.events.specs.declared.ask.KeptAsk.{KeptAsk}
pub use Rattle.events.specs.declared.ask.KeptAsk.TheVariants.{Open, Holding, Running, Finished, Over}
use Rattle.events.specs.declared.answer.How.TheVariants as how

-- what a node knows and keeps
pub record Node : Type 0 where
  pub life : Life
  -- the asks of this life, in their order
  pub asks : List KeptAsk
  -- contents by digest
  pub store : Digest → Option (List ℕ)
  -- digests by version
  pub known : Slot → ℕ → Option Digest
  -- down for good: the greatest life was over
  pub spent : Bool

-- the ask has this grant, and its end isn't known
abbrev pub keeps : KeptAsk → Ticket → Bool
keeps (Open wants tenure) ticket = false
keeps (Holding wants grant recalled) ticket = grant.ticket.0 == ticket.0
keeps (Running wants grant recalled) ticket = grant.ticket.0 == ticket.0
keeps (Finished wants grant news) ticket = grant.ticket.0 == ticket.0
keeps (Over ending) ticket = false

-- the digest of this version of the slot becomes known
abbrev pub learn : Slot → ℕ → Digest → (Slot → ℕ → Option Digest) → Slot → ℕ → Option Digest
learn slot number digest known other_slot other_number =
    if slot_eq other_slot slot
    then (if other_number == number then Some digest else known other_slot other_number)
    else known other_slot other_number

-- the base versions of a grant become known
abbrev pub learn_bases : List GrantedSlot → (Slot → ℕ → Option Digest) → Slot → ℕ → Option Digest
learn_bases [] known = known
learn_bases (granted ∷ slots) known = learn_bases slots (learn granted.slot granted.base granted.digest known)

-- the versions of a confirmation become known
abbrev pub learn_versions : List Confirmed → (Slot → ℕ → Option Digest) → Slot → ℕ → Option Digest
learn_versions [] known = known
learn_versions (version ∷ versions) known =
    learn_versions versions (learn version.slot version.number version.digest known)

-- the content is stored under the digest
abbrev pub keep : Digest → List ℕ → (Digest → Option (List ℕ)) → Digest → Option (List ℕ)
keep digest content store other = if digest_eq other digest then Some content else store other

-- nothing is stored under the digest
abbrev pub without : Digest → (Digest → Option (List ℕ)) → Digest → Option (List ℕ)
without digest store other = if digest_eq other digest then None else store other

-- what an ask wants that isn't over
abbrev pub wants_of : KeptAsk → List Want
wants_of (Open wants tenure) = wants
wants_of (Holding wants grant recalled) = wants
wants_of (Running wants grant recalled) = wants
wants_of (Finished wants grant news) = wants
wants_of (Over ending) = []

-- an ask that isn't over is for a tenure
abbrev pub for_tenure : KeptAsk → Bool
for_tenure (Open wants tenure) = tenure
for_tenure (Holding wants grant recalled) = is_tenure grant.kind
for_tenure (Running wants grant recalled) = is_tenure grant.kind
for_tenure (Finished wants grant news) = is_tenure grant.kind
for_tenure (Over ending) = false

-- the ask is open, granted or running, and this is one of its wants
abbrev pub WantsNow : KeptAsk → Want → Type 0
WantsNow (Open wants tenure) want = In want wants
WantsNow (Holding wants grant recalled) want = In want wants
WantsNow (Running wants grant recalled) want = In want wants
WantsNow (Finished wants grant news) want = ⊥
WantsNow (Over ending) want = ⊥

-- one of the wants has the folder
abbrev pub HaveFolder : List Want → FolderName → Type 0
HaveFolder wants folder = (want : Want) × In want wants × (want.folder ≡ folder)

-- the ask is the tenure of the folder, and isn't over
abbrev pub IsTenureOf : FolderName → KeptAsk → Type 0
IsTenureOf folder kept = (for_tenure kept ≡ true) × HaveFolder (wants_of kept) folder

-- the tenure of the folder is in use here, recalled or not
abbrev pub RunsTenure : List KeptAsk → FolderName → Bool → Type 0
RunsTenure asks folder recalled =
    (place : ℕ) × (wants : List Want) × (grant : Grant) × (want : Want)
    × (nth asks place ≡ Some (Running wants grant recalled))
    × (is_tenure grant.kind ≡ true)
    × In want wants
    × (want.folder ≡ folder)

-- the ask wants the folder, and is open, granted or running
abbrev pub Uses : FolderName → KeptAsk → Type 0
Uses folder kept = (want : Want) × WantsNow kept want × (want.folder ≡ folder)

-- a tenure may end only where no other ask of the node uses its folder
abbrev pub Idle : List KeptAsk → ℕ → List Want → Grant → Type 0
Idle asks place wants grant =
    is_tenure grant.kind ≡ true
    → (want : Want) → In want wants
    → (other_place : ℕ) (kept : KeptAsk) → nth asks other_place ≡ Some kept
    → other_place ≢ place
    → Uses want.folder kept
    → ⊥

-- the tenure of each SHARED want is in use here and not recalled
abbrev pub AreAtHome : List KeptAsk → List Want → Type 0
AreAtHome asks wants = (want : Want) → In want wants → wants_shared want ≡ true → RunsTenure asks want.folder false

-- no ask is the tenure of the folder
abbrev pub HasNoTenure : List KeptAsk → FolderName → Type 0
HasNoTenure asks folder = (place : ℕ) (kept : KeptAsk) → nth asks place ≡ Some kept → IsTenureOf folder kept → ⊥

-- the ask isn't open
abbrev pub IsNotOpen : List KeptAsk → Ask → Type 0
IsNotOpen asks ask = (wants : List Want) (tenure : Bool) → nth asks ask.0 ≢ Some (Open wants tenure)

-- the ask hasn't the grant, or its end is known
abbrev pub HasNotGrant : List KeptAsk → Grant → Type 0
HasNotGrant asks grant = (kept : KeptAsk) → nth asks grant.ask.0 ≡ Some kept → keeps kept grant.ticket ≡ false

-- the contents from which an execution begins are stored
abbrev pub AreStored : (Digest → Option (List ℕ)) → List GrantedSlot → Type 0
AreStored store slots = (granted : GrantedSlot) → In granted slots → (content : List ℕ) × (store granted.digest ≡ Some content)

-- the node in a new life, which has no ask
abbrev pub has_life : Node → ℕ → Node
has_life state life = record state { life = record { 0 = life }; asks = [] }

-- the machine, what its record holds while it is down, the messages ever sent, and the nodes
pub record World : Type 0 where
  pub machine : Machine
  -- after a failed save: what the record holds, the machine before the event or after it
  pub down : Option Machine
  pub pool : List Message
  pub nodes : ℕ → Node

module _ (sha : List ℕ → Digest) where
  -- what is stored later is what was, and contents under their digests
  abbrev pub AddsContents : (Digest → Option (List ℕ)) → (Digest → Option (List ℕ)) → Type 0
  AddsContents store later = (digest : Digest) (content : List ℕ) → later digest ≡ Some content
      → (store digest ≡ Some content) ⊎ (sha content ≡ digest)

  -- what a node with this number does: the messages that it sends, and its next state. `sha` gives a content's digest
  pub data Act (pool : List Message) (node : NodeId) (state : Node) : List Message → Node → Type 0 where
    -- a new ask: its number is one above the last
    Asks : (wants : List Want)
        → AreAtHome state.asks wants
        → Act pool node state
        (acquire node state.life (record { 0 = length state.asks + 1 }) wants false ∷ [])
        (record state { asks = state.asks ++ Open wants false ∷ [] })
    -- a new ask for the tenure of a folder, where no ask of the node is that tenure
    Asks_tenure : (folder : FolderName)
        → HasNoTenure state.asks (record folder { mode = Shared })
        → Act pool node state
        (acquire node state.life (record { 0 = length state.asks + 1 }) (tenure_wants folder) true ∷ [])
        (record state { asks = state.asks ++ Open (tenure_wants folder) true ∷ [] })
    -- an open ask is sent again
    Asks_again : (ask : Ask) (wants : List Want) (tenure : Bool)
        → (nth state.asks ask.0 ≡ Some (Open wants tenure))
        → Act pool node state (acquire node state.life ask wants tenure ∷ []) state
    -- the node says that its life has begun
    Greets : Act pool node state (hello node state.life ∷ []) state
    -- a Grant of an open ask is taken
    Takes : (grant : Grant) (wants : List Want) (tenure : Bool)
        → In (Told (told.Granted grant)) pool
        → (grant.node ≡ node)
        → (grant.life ≡ state.life)
        → (nth state.asks grant.ask.0 ≡ Some (Open wants tenure))
        → Act pool node state []
        (record state {
          asks = set_nth state.asks grant.ask.0 (Holding wants grant false);
          known = learn_bases grant.slots state.known;
        })
    -- a Grant that no ask waits for or has is given back
    Gives_back : (grant : Grant) → In (Told (told.Granted grant)) pool → (grant.node ≡ node) → (grant.life ≡ state.life)
        → IsNotOpen state.asks grant.ask
        → HasNotGrant state.asks grant
        → Act pool node state (release node state.life grant.ticket ∷ []) state
    -- an execution begins
    Begins : (wants : List Want) (grant : Grant) (recalled : Bool) (place : ℕ)
        → (nth state.asks place ≡ Some (Holding wants grant recalled))
        → AreStored state.store grant.slots
        → Act pool node state [] (record state { asks = set_nth state.asks place (Running wants grant recalled) })
    -- an execution ends with news, which are sent
    Finishes : (wants : List Want) (grant : Grant) (recalled : Bool) (place : ℕ)
        (news : List News) (store : Digest → Option (List ℕ))
        → (nth state.asks place ≡ Some (Running wants grant recalled))
        → Idle state.asks place wants grant
        → (slots_of news ≡ written grant.slots)
        → (news ≢ [])
        → AddsContents state.store store
        → Act pool node state
        (commit node state.life grant.ticket news ∷ [])
        (record state { asks = set_nth state.asks place (Finished wants grant news); store = store })
    -- an execution ends with nothing to write, or is aborted, or a grant is given back unused
    Gives_up : (wants : List Want) (grant : Grant) (recalled : Bool) (place : ℕ)
        → ((nth state.asks place ≡ Some (Holding wants grant recalled))
        ⊎ (nth state.asks place ≡ Some (Running wants grant recalled)))
        → Idle state.asks place wants grant
        → Act pool node state
        (release node state.life grant.ticket ∷ [])
        (record state { asks = set_nth state.asks place (Over (how.Released grant.ticket)) })
    -- news that were not answered are sent again
    Sends_commit : (wants : List Want) (grant : Grant) (place : ℕ) (news : List News)
        → (nth state.asks place ≡ Some (Finished wants grant news))
        → Act pool node state (commit node state.life grant.ticket news ∷ []) state
    -- the news count, and their versions become known
    Learns : (wants : List Want) (grant : Grant) (place : ℕ) (news : List News) (versions : List Confirmed)
        → In (Told (told.Committed node state.life grant.ticket versions)) pool
        → (nth state.asks place ≡ Some (Finished wants grant news))
        → Act pool node state []
        (record state {
          asks = set_nth state.asks place (Over (how.Committed grant.ticket versions));
          known = learn_versions versions state.known;
        })
    -- the news do not count
    Drops : (wants : List Want) (grant : Grant) (place : ℕ) (news : List News)
        → In (Told (told.Fenced node state.life grant.ticket)) pool
        → (nth state.asks place ≡ Some (Finished wants grant news))
        → Act pool node state [] (record state { asks = set_nth state.asks place (Over (how.Fenced grant.ticket)) })
    -- an open ask is denied
    Is_denied : (ask : Ask) (why : Why) (wants : List Want) (tenure : Bool)
        → In (Told (told.Denied node state.life ask why)) pool
        → (nth state.asks ask.0 ≡ Some (Open wants tenure))
        → Act pool node state [] (record state { asks = set_nth state.asks ask.0 (Over (how.Denied why)) })
    -- a grant is recalled, before its execution or in it
    Is_recalled : (wants : List Want) (grant : Grant) (place : ℕ)
        → In (Told (told.Recall node state.life grant.ticket)) pool
        → (nth state.asks place ≡ Some (Holding wants grant false))
        → Act pool node state [] (record state { asks = set_nth state.asks place (Holding wants grant true) })
    Is_recalled_running : (wants : List Want) (grant : Grant) (place : ℕ)
        → In (Told (told.Recall node state.life grant.ticket)) pool
        → (nth state.asks place ≡ Some (Running wants grant false))
        → Act pool node state [] (record state { asks = set_nth state.asks place (Running wants grant true) })
    -- any bytes may come, and are kept under their own digest
    Stores : (content : List ℕ)
        → Act pool node state [] (record state { store = keep (sha content) content state.store })
    -- what is stored may go, whatever it is for. Its versions stay known
    Forgets : (digest : Digest) (content : List ℕ)
        → (state.store digest ≡ Some content)
        → Act pool node state [] (record state { store = without digest state.store })
    -- any node may be asked for any content, and may be sent any
    Asks_content : (other : NodeId) (digest : Digest)
        → Act pool node state (Fetches (record { node = other; from = node; digest = digest }) ∷ []) state
    Sends_blob : (other : NodeId) (content : List ℕ) → Act pool node state (Blob other content ∷ []) state
    -- a restart ends the executions, and keeps the contents with the known versions
    Restarts : Act pool node state
        (hello node (record { 0 = state.life.0 + 1 }) ∷ [])
        (has_life state (state.life.0 + 1))
    -- the greatest life is over
    Stops : Act pool node state [] (record state { spent = true })

  -- one move of the world. A change of the machine and what it says are moves of their own: so a change whose
  -- messages were never sent is one too
  pub data Move (world : World) : World → Type 0 where
    -- a node does something
    Node_moves : (node : NodeId) (sends : List Message) (state : Node)
        → Act world.pool node (world.nodes node.0) sends state
        → Move world (record world { nodes = put node.0 state world.nodes; pool = world.pool ++ sends })
    -- the machine makes a step, or says something: not while it is down
    Machine_moves : (machine : Machine)
        → (world.down ≡ None)
        → Step (sha []) world.pool world.machine machine
        → Move world (record world { machine = machine })
    Machine_says : (telling : FromCoord)
        → (world.down ≡ None)
        → Says (sha []) world.pool world.machine telling
        → Move world (record world { pool = world.pool ++ Told telling ∷ [] })
    -- a save fails: the record holds the machine as it was, or as some steps made it
    Fails : (machine : Machine)
        → (world.down ≡ None)
        → Steps (sha []) world.pool world.machine machine
        → Move world (record world { down = Some machine })
    -- a restart reads the record
    Recovers : (machine : Machine)
        → (world.down ≡ Some machine)
        → Move world (record world { machine = machine; down = None })

  -- any number of moves
  pub data Moves : World → World → Type 0 where
    Still : (world : World) → Moves world world
    Then : (world middle later : World) → Moves world middle → Move middle later → Moves world later

  -- a node in its first life. Every node stores the empty content
  abbrev pub first_node : Node
  first_node = record {
    life = record { 0 = 1 };
    asks = [];
    store = keep (sha []) [] (λ digest. None);
    known = λ slot number. None;
    spent = false;
  }

  -- the world where nothing has happened
  abbrev pub start : World
  start = record {
    machine = record {
      made = [];
      ending = λ ticket. None;
      last = 0;
      old_home = None;
      gone = λ node. false;
      lives = λ node. 0;
      parked = [];
    };
    down = None;
    pool = [];
    nodes = λ node. first_node;
  }
