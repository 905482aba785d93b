-- What an answered event means, of the world before it and the world after it (docs/PROOFS.md, "What the notes mean").
use Rattle.std.specs.Prelude.{◌≡◌, ◌≢◌, ℕ, ◌+◌, ◌-◌, ◌<◌, ◌≤◌, nat_lt, filter, Bool, false, true, if◌then◌else◌, ◌⊎◌, Option, Some, None, ⊤, List, [], ◌∷◌, ◌++◌, length, map, Result, Ok, Err}
use Rattle.farm_base.specs.Kinds.{is_tenure}
use Rattle.protocol.specs.Lists.{In, put, nth, set_nth}
use Rattle.protocol.specs.Names.{Slot, slot_eq, is_private, Mode, Shared, Private, Locked, FolderName, NodeId, Life, Ask, Ticket, Digest, Want, tenure_wants}
use Rattle.protocol.specs.Machine.{Grant, GrantedSlot, Granted, ticket_of, Message, Told, News, Confirmed, LineVersion, Ending, Committed, Released, Withdrawn, Died, Said, Fetch, Fetches, Blob, FromCoord, ToCoord, Parked, HasPart, Machine, Has, Live, Leased, Retired, Free, line, version_of, digest_for, slots_of, written, hello, acquire, commit, release}
use Rattle.farm_base.specs.declared.message.Message.TheVariants as to
use Rattle.farm_base.specs.declared.message.ToNode.TheVariants as to_node
use Rattle.farm_base.specs.declared.message.Request.{Request}
use Rattle.farm_base.specs.declared.message.Request.TheVariants as request
use Rattle.farm_base.specs.declared.message.FromCoord.TheVariants as told
use Rattle.farm_base.specs.declared.message.Why.{Why}
use Rattle.farm_base.specs.declared.message.Why.TheVariants as why
use Rattle.protocol.specs.Ledger.{Limits}
use Rattle.events.specs.declared.answer.How.TheVariants as how
use Rattle.events.specs.declared.answer.CoordNote.{CoordNote}
use Rattle.events.specs.declared.answer.CoordNote.TheVariants as coord
use Rattle.events.specs.declared.answer.NodeNote.{NodeNote}
use Rattle.events.specs.declared.answer.NodeNote.TheVariants as node_note
use Rattle.events.specs.declared.answer.EventNote.{EventNote}
use Rattle.events.specs.declared.answer.EventNote.TheVariants as note
use Rattle.events.specs.declared.answer.CoordRefusal.TheVariants as coord_refusal
use Rattle.events.specs.declared.answer.EventRefusal.{EventRefusal}
use Rattle.events.specs.declared.answer.EventRefusal.TheVariants as refusal
use Rattle.events.specs.declared.answer.Outcome.{Outcome}
use Rattle.protocol.specs.World.{KeptAsk, Open, Holding, Running, Finished, Over, Node, World, keeps, learn_bases, learn_versions, keep, without, has_life}
use Rattle.protocol.specs.Nodes.{Left, news_of}
use Rattle.protocol.specs.Replay.{Event, Tenure, Deliver, Begin, Finish, Abort, Resend, Nudge, Withdraw, Prune, Retire, RestartNode, RestartCoordinator, Forge, Forget, FailSave, receiver}
use Rattle.protocol.specs.Replay as replay
use Rattle.protocol.specs.Safe.{InUse}

-- ---- what ended

-- of the live grants exactly these ended, each so, and no other ticket's ending changed
pub record Ended (machine : Machine) (ends : Grant → Ending → Type 0) (ending : ℕ → Option Ending) : Type 0 where
  pub all : (grant : Grant) (how : Ending) → Live machine grant → ends grant how → ending grant.ticket.0 ≡ Some how
  pub only : (ticket : ℕ) → (ending ticket ≡ machine.ending ticket)
      ⊎ ((grant : Grant) × (how : Ending) × Live machine grant × ends grant how × (grant.ticket.0 ≡ ticket)
      × (ending ticket ≡ Some how))

-- how a message ends a live grant, where this was the answer to it
pub data MessageEnds (machine : Machine) (saying : ToCoord) (answer : CoordNote) (grant : Grant) : Ending → Type 0 where
  Of_older_life : (machine.gone saying.node.0 ≡ false) → machine.lives saying.node.0 < saying.life.0
      → (grant.node ≡ saying.node) → grant.life.0 < saying.life.0 → MessageEnds machine saying answer grant Died
  By_commit : (news : List News) → (saying.request ≡ request.Commit grant.ticket news)
      → (answer ≡ coord.Committed grant.ticket)
      → MessageEnds machine saying answer grant (Committed news)
  By_release : (saying.request ≡ request.Release grant.ticket) → (answer ≡ coord.Released grant.ticket)
      → MessageEnds machine saying answer grant Released

abbrev pub WithdrawEnds : Ticket → Grant → Ending → Type 0
WithdrawEnds ticket grant how = (grant.ticket ≡ ticket) × (how ≡ Withdrawn)

abbrev pub RetireEnds : NodeId → Grant → Ending → Type 0
RetireEnds node grant how = (grant.node ≡ node) × (how ≡ Withdrawn)

-- the record has a lease only if it has a PRIVATE slot or is a tenure
abbrev pub RestartEnds : Grant → Ending → Type 0
RestartEnds grant how =
    (is_tenure grant.kind ≡ false) × ((slot : Slot) → Has grant slot → is_private slot.folder.mode ≡ false)
    × (how ≡ Withdrawn)

abbrev pub NoEnds : Grant → Ending → Type 0
NoEnds grant how = ⊥

-- how an accepted event ends a live grant
abbrev pub EndsAt : World → Event → EventNote → Grant → Ending → Type 0
EndsAt world (Deliver number) said = λ grant how. (answer : CoordNote) × (saying : ToCoord) × (said ≡ note.Coord answer)
    × (nth world.pool number ≡ Some (Said saying)) × MessageEnds world.machine saying answer grant how
EndsAt world (Withdraw ticket) said = WithdrawEnds ticket
EndsAt world (Retire node) said = RetireEnds node
EndsAt world RestartCoordinator said = RestartEnds
EndsAt world event said = NoEnds

-- the machine that an event finds: a restart finds what the record holds
abbrev pub recorded : Machine → Option Machine → Machine
recorded machine None = machine
recorded machine (Some kept) = kept

abbrev pub Finds : World → Event → Machine
Finds world RestartCoordinator = recorded world.machine world.down
Finds world event = world.machine

-- ---- what lines gain

-- the news of a Commit that was answered Committed
abbrev pub commit_adds : List News → CoordNote → Slot → List LineVersion
commit_adds news (coord.Committed ticket) slot = version_of ticket (digest_for slot news)
commit_adds news answer slot = []

abbrev pub request_adds : Request → CoordNote → Slot → List LineVersion
request_adds (request.Commit ticket news) answer slot = commit_adds news answer slot
request_adds other answer slot = []

abbrev pub message_adds : Option Message → EventNote → Slot → List LineVersion
message_adds (Some (to.ToCoord saying)) (note.Coord answer) slot = request_adds saying.request answer slot
message_adds other said slot = []

-- the empty content, in the slot that is pruned
abbrev pub prune_adds : Digest → Slot → EventNote → Slot → List LineVersion
prune_adds empty pruned (note.Coord (coord.Pruned ticket)) slot =
    if slot_eq pruned slot then record { ticket = ticket; digest = empty } ∷ [] else []
prune_adds empty pruned said slot = []

-- what an accepted event adds to the line of a slot, `pool` having been sent
abbrev pub adds : Digest → List Message → Event → EventNote → Slot → List LineVersion
adds empty pool (Deliver number) said slot = message_adds (nth pool number) said slot
adds empty pool (Prune pruned) said slot = prune_adds empty pruned said slot
adds empty pool event said slot = []

-- ---- what is kept of nodes and asks

-- the life of a message that was heard is the greatest of its node
abbrev pub heard_lives : ToCoord → CoordNote → (ℕ → ℕ) → ℕ → ℕ
heard_lives saying coord.OldLife lives = lives
heard_lives saying coord.NodeRetired lives = lives
heard_lives saying answer lives = put saying.node.0 saying.life.0 lives

abbrev pub message_lives : Option Message → EventNote → (ℕ → ℕ) → ℕ → ℕ
message_lives (Some (to.ToCoord saying)) (note.Coord answer) lives = heard_lives saying answer lives
message_lives other said lives = lives

-- the greatest lives after an accepted event
abbrev pub lives_at : List Message → Event → EventNote → (ℕ → ℕ) → ℕ → ℕ
lives_at pool (Deliver number) said lives = message_lives (nth pool number) said lives
lives_at pool event said lives = lives

-- the ask was granted or denied, and that was sent
abbrev pub IsAnswered : Parked → List Message → Type 0
IsAnswered parked sends =
    ((grant : Grant) × In (Told (told.Granted grant)) sends
    × (grant.node ≡ parked.node) × (grant.life ≡ parked.life) × (grant.ask ≡ parked.ask))
    ⊎ ((why : Why) × In (Told (told.Denied parked.node parked.life parked.ask why)) sends)

-- a parked ask that an event drops unanswered: of an older life of the message's node, of a node that retires, and all
-- at a restart of the coordinator
abbrev pub DropsAt : List Message → Event → Parked → Type 0
DropsAt pool (Deliver number) = λ parked. (saying : ToCoord) × (nth pool number ≡ Some (Said saying))
    × (parked.node ≡ saying.node) × parked.life.0 < saying.life.0
DropsAt pool (Retire node) = λ parked. parked.node ≡ node
DropsAt pool RestartCoordinator = λ parked. ⊤
DropsAt pool event = λ parked. ⊥

-- ---- which executions run

-- an accepted event that begins an execution of the node
abbrev pub BeginsAt : Event → NodeId → Grant → Type 0
BeginsAt (Begin at ticket) = λ node grant. (node ≡ at) × (grant.ticket ≡ ticket)
BeginsAt event = λ node grant. ⊥

-- one that ends it
abbrev pub StopsAt : Event → NodeId → Grant → Type 0
StopsAt (Finish at ticket lefts) = λ node grant. (node ≡ at) × (grant.ticket ≡ ticket)
StopsAt (Abort at ticket) = λ node grant. (node ≡ at) × (grant.ticket ≡ ticket)
StopsAt (RestartNode at) = λ node grant. node ≡ at
StopsAt event = λ node grant. ⊥

-- no other execution begins or ends
pub record Used (world : World) (event : Event) (later : World) : Type 0 where
  pub began : (node : NodeId) (grant : Grant) (wants : List Want) → InUse later node grant wants
      → InUse world node grant wants ⊎ BeginsAt event node grant
  pub stopped : (node : NodeId) (grant : Grant) (wants : List Want) → InUse world node grant wants
      → InUse later node grant wants ⊎ StopsAt event node grant

-- ---- what an answer of the coordinator says

-- a live grant has the ticket
abbrev pub IsLive : Machine → Ticket → Type 0
IsLive machine ticket = (grant : Grant) × Live machine grant × (grant.ticket ≡ ticket)

-- what an answer says of the machine before
abbrev pub CoordMeans : Machine → CoordNote → Type 0
CoordMeans machine (coord.Committed ticket) = IsLive machine ticket
CoordMeans machine (coord.Released ticket) = IsLive machine ticket
CoordMeans machine (coord.Withdrawn ticket) = IsLive machine ticket
CoordMeans machine (coord.Retired node) = machine.gone node.0 ≡ false
CoordMeans machine answer = ⊤

-- exactly these grants ended, and the answer is true of the machine before
abbrev pub Meant : Machine → (Grant → Ending → Type 0) → CoordNote → (ℕ → Option Ending) → Type 0
Meant machine ends answer ending = Ended machine ends ending × CoordMeans machine answer

-- the message is the grant's Acquire
abbrev pub Asks : ToCoord → Grant → Type 0
Asks saying grant = (grant.node ≡ saying.node) × (grant.life ≡ saying.life)
    × ((wants : List Want) × (tenure : Bool) × (saying.request ≡ request.Acquire grant.ask wants tenure))

-- the ticket is on the line of each slot that the news name
abbrev pub OnAll : Digest → Machine → Ticket → List News → Type 0
OnAll empty machine ticket news = (news ≢ [])
    × ((item : News) → In item news → (version : LineVersion) × In version (line empty machine item.slot)
    × (version.ticket ≡ ticket))

abbrev pub instance_of : FolderName → ℕ → Slot
instance_of folder number = record { folder = folder; instance = number }

-- a parked ask for a tenure wants the SHARED folder of the grant
abbrev pub IsAwaited : Machine → Grant → Type 0
IsAwaited machine grant = (parked : Parked) × (want : Want) × In parked machine.parked × (parked.tenure ≡ true)
    × In want parked.wants × (want.folder.mode ≡ Shared) × Has grant (instance_of want.folder 0)

-- an ask for a tenure that was not parked before has the live tenure of its folder recalled, unless another node is the
-- old home
abbrev pub Recalls : ToCoord → Machine → Machine → List Message → Type 0
Recalls saying machine after sends = (ask : Ask) (wants : List Want) → saying.request ≡ request.Acquire ask wants true
    → ((parked : Parked) → In parked machine.parked
    → (parked.node ≡ saying.node) × (parked.life ≡ saying.life) × (parked.ask ≡ ask) → ⊥)
    → ((home : NodeId) → after.old_home ≡ Some home → home.0 ≡ saying.node.0)
    → (grant : Grant) (want : Want) → Live after grant → In want wants → want.folder.mode ≡ Shared
    → Has grant (instance_of want.folder 0) → In (Told (told.Recall grant.node grant.life grant.ticket)) sends

-- a confirmation was sent that names a version of each slot of the news, in their order
abbrev pub Confirms : ToCoord → Ticket → List News → List Message → Type 0
Confirms saying ticket news sends = (versions : List Confirmed)
    × In (Told (told.Committed saying.node saying.life ticket versions)) sends
    × (map (λ (version : Confirmed). version.slot) versions ≡ slots_of news)

-- what the answer to a message says, of the machine before and the one after
abbrev pub MessageMeans : Digest → ToCoord → Machine → CoordNote → Machine → List Message → Type 0
MessageMeans empty saying machine (coord.Granted grant) after sends =
    Asks saying grant × Live after grant × (In (Granted grant) machine.made → ⊥) × In (Told (told.Granted grant)) sends
MessageMeans empty saying machine (coord.GrantedBefore grant) after sends =
    Asks saying grant × Live after grant × In (Told (told.Granted grant)) sends
MessageMeans empty saying machine coord.Parked after sends = (parked : Parked) × In parked after.parked
    × (parked.node ≡ saying.node) × (parked.life ≡ saying.life)
    × ((wants : List Want) × (tenure : Bool) × (saying.request ≡ request.Acquire parked.ask wants tenure))
    × Recalls saying machine after sends
MessageMeans empty saying machine (coord.Committed ticket) after sends =
    (news : List News) × (saying.request ≡ request.Commit ticket news) × Confirms saying ticket news sends
MessageMeans empty saying machine (coord.CommittedBefore ticket) after sends = (news : List News)
    × (saying.request ≡ request.Commit ticket news) × OnAll empty after ticket news × Confirms saying ticket news sends
-- what was ever fenced is on no line then or later: so says `Safe`
MessageMeans empty saying machine (coord.Fenced ticket) after sends = (news : List News)
    × (saying.request ≡ request.Commit ticket news) × In (Told (told.Fenced saying.node saying.life ticket)) sends
MessageMeans empty saying machine (coord.Released ticket) after sends = saying.request ≡ request.Release ticket
MessageMeans empty saying machine (coord.Denied why) after sends = (ask : Ask) × (wants : List Want) × (tenure : Bool)
    × (saying.request ≡ request.Acquire ask wants tenure)
    × In (Told (told.Denied saying.node saying.life ask why)) sends
MessageMeans empty saying machine coord.OldLife after sends =
    (machine.gone saying.node.0 ≡ false) × (saying.life.0 < machine.lives saying.node.0) × (sends ≡ [])
MessageMeans empty saying machine coord.NodeRetired after sends = (machine.gone saying.node.0 ≡ true) × (sends ≡ [])
-- a Release is of no lease of its sender
MessageMeans empty saying machine coord.Nothing after sends = (saying.request ≡ request.Hello)
    ⊎ ((ticket : Ticket) × (saying.request ≡ request.Release ticket)
    × ((grant : Grant) → Live after grant → grant.ticket ≡ ticket → grant.node ≡ saying.node
    → grant.life ≡ saying.life → ⊥))
MessageMeans empty saying machine answer after sends = ⊥

-- what the coordinator did at an accepted event
abbrev pub CoordDid : Digest → World → Event → EventNote → Machine → List Message → Type 0
CoordDid empty world (Deliver number) said after sends = (saying : ToCoord) → nth world.pool number ≡ Some (Said saying)
    → (answer : CoordNote) × (said ≡ note.Coord answer) × MessageMeans empty saying world.machine answer after sends
CoordDid empty world Nudge said after sends = (said ≡ note.Coord coord.Nudged)
    × ((grant : Grant) → Live world.machine grant → In (Told (told.Granted grant)) sends)
    × ((grant : Grant) → Live world.machine grant → is_tenure grant.kind ≡ true → IsAwaited world.machine grant
    → In (Told (told.Recall grant.node grant.life grant.ticket)) sends)
CoordDid empty world (Withdraw ticket) said after sends =
    (said ≡ note.Coord (coord.Withdrawn ticket)) × IsLive world.machine ticket
CoordDid empty world (Prune slot) said after sends =
    (ticket : Ticket) × (said ≡ note.Coord (coord.Pruned ticket)) × (world.machine.last < ticket.0)
CoordDid empty world (Retire node) said after sends =
    (said ≡ note.Coord (coord.Retired node)) × (world.machine.gone node.0 ≡ false) × (after.gone node.0 ≡ true)
CoordDid empty world RestartCoordinator said after sends = said ≡ note.Restarted
CoordDid empty world event said after sends = ⊤

-- a Grant that may be sent again: of an ask that was granted before, or at a nudge
abbrev pub Again : EventNote → Grant → Type 0
Again (note.Coord (coord.GrantedBefore before)) grant = grant ≡ before
Again (note.Coord coord.Nudged) grant = ⊤
Again said grant = ⊥

-- what an accepted event made of the machine that it found, with what was sent
pub record Carried (empty : Digest) (world : World) (event : Event) (said : EventNote) (sends : List Message)
    (after : Machine) : Type 0 where
  pub ended : Ended (Finds world event) (EndsAt world event said) after.ending
  -- what is granted is sent
  pub granted : (grant : Grant) → In (Granted grant) after.made
      → In (Granted grant) (Finds world event).made ⊎ In (Told (told.Granted grant)) sends
  -- what is sent as granted was made then, or is live and was sent again
  pub sent : (grant : Grant) → In (Told (told.Granted grant)) sends → In (Granted grant) after.made
      × ((In (Granted grant) (Finds world event).made → ⊥) ⊎ (Again said grant × Live after grant))
  -- a parked ask stays until it is answered or dropped
  pub waits : (parked : Parked) → In parked (Finds world event).parked
      → In parked after.parked ⊎ (IsAnswered parked sends ⊎ DropsAt world.pool event parked)
  -- nodes retire by their retirement alone, and lives are those of messages that were heard
  pub gone : (number : ℕ) → (after.gone number ≡ (Finds world event).gone number)
      ⊎ (event ≡ Retire (record { 0 = number }))
  pub lives : (number : ℕ) → after.lives number ≡ lives_at world.pool event said (Finds world event).lives number
  -- each line gained what the event adds, and nothing else
  pub lines : (slot : Slot)
      → line empty after slot ≡ line empty (Finds world event) slot ++ adds empty world.pool event said slot
  pub told : (answer : CoordNote) → said ≡ note.Coord answer → CoordMeans world.machine answer
  pub did : CoordDid empty world event said after sends

-- ---- what an answer of a node says

-- the node that an event is for
abbrev pub addressee : Option Message → Option NodeId
addressee (Some (to.ToNode message)) = Some (receiver message)
addressee other = None

abbrev pub node_at : World → Event → Option NodeId
node_at world (replay.Ask node wants) = Some node
node_at world (Tenure node folder) = Some node
node_at world (Deliver number) = addressee (nth world.pool number)
node_at world (Begin node ticket) = Some node
node_at world (Finish node ticket lefts) = Some node
node_at world (Abort node ticket) = Some node
node_at world (Resend node) = Some node
node_at world (RestartNode node) = Some node
node_at world (Forge node content) = Some node
node_at world (Forget node digest) = Some node
node_at world event = None

-- the message that an event delivers
abbrev pub heard_at : World → Event → Option Message
heard_at world (Deliver number) = nth world.pool number
heard_at world event = None

-- the event asks for these wants
abbrev pub AsksFor : Event → List Want → Bool → Type 0
AsksFor (replay.Ask node asked) = λ wants tenure. (wants ≡ asked) × (tenure ≡ false)
AsksFor (Tenure node folder) = λ wants tenure. (wants ≡ tenure_wants folder) × (tenure ≡ true)
AsksFor event = λ wants tenure. ⊥

-- what an execution leaves
abbrev pub lefts_at : Event → List Left
lefts_at (Finish node ticket lefts) = lefts
lefts_at event = []

-- the node's ask of this number
abbrev pub IsAsk : Node → ℕ → KeptAsk → Type 0
IsAsk state number kept = nth state.asks number ≡ Some kept

-- the life that a message of the coordinator is for
abbrev pub life_of : FromCoord → Life
life_of (told.Granted grant) = grant.life
life_of (told.Committed node life ticket versions) = life
life_of (told.Fenced node life ticket) = life
life_of (told.Denied node life ask why) = life
life_of (told.Recall node life ticket) = life

-- no ask of this life has something to do at the message: a Grant that an ask has already, an answer to no finished
-- ask, a denial of no open ask, or a Recall of no tenure that is present and not recalled
abbrev pub IsAnsweredBefore : Node → FromCoord → Type 0
IsAnsweredBefore state (told.Granted grant) =
    (kept : KeptAsk) × IsAsk state grant.ask.0 kept × (keeps kept grant.ticket ≡ true)
IsAnsweredBefore state (told.Committed node life ticket versions) =
    (number : ℕ) (wants : List Want) (grant : Grant) (news : List News)
    → IsAsk state number (Finished wants grant news) → grant.ticket ≢ ticket
IsAnsweredBefore state (told.Fenced node life ticket) =
    (number : ℕ) (wants : List Want) (grant : Grant) (news : List News)
    → IsAsk state number (Finished wants grant news) → grant.ticket ≢ ticket
IsAnsweredBefore state (told.Denied node life ask why) =
    (wants : List Want) (tenure : Bool) → IsAsk state ask.0 (Open wants tenure) → ⊥
IsAnsweredBefore state (told.Recall node life ticket) = (number : ℕ) (wants : List Want) (grant : Grant)
    → grant.ticket ≡ ticket
    → is_tenure grant.kind ≡ true
    → IsAsk state number (Holding wants grant false) ⊎ IsAsk state number (Running wants grant false) → ⊥

-- a grant that isn't begun has the digest as a base
abbrev pub IsBase : Node → Digest → Type 0
IsBase state digest = (number : ℕ) × (wants : List Want) × (grant : Grant) × (recalled : Bool) × (granted : GrantedSlot)
    × IsAsk state number (Holding wants grant recalled) × In granted grant.slots × (granted.digest ≡ digest)

-- an ask needs the content of the digest: as a base of its grant until it has finished, and then as one of its news
pub data Needs (digest : Digest) : KeptAsk → Type 0 where
  Held_base : (wants : List Want) (grant : Grant) (recalled : Bool) (granted : GrantedSlot) → In granted grant.slots
      → (granted.digest ≡ digest) → Needs digest (Holding wants grant recalled)
  Running_base : (wants : List Want) (grant : Grant) (recalled : Bool) (granted : GrantedSlot) → In granted grant.slots
      → (granted.digest ≡ digest) → Needs digest (Running wants grant recalled)
  Sent_news : (wants : List Want) (grant : Grant) (news : List News) (item : News) → In item news
      → (item.digest ≡ digest) → Needs digest (Finished wants grant news)

abbrev pub IsNeeded : Node → Digest → Type 0
IsNeeded state digest = (number : ℕ) × (kept : KeptAsk) × IsAsk state number kept × Needs digest kept

-- what arrives at a node: a message, or a content that nobody sent
abbrev pub Arrives : Option Message → Event → NodeId → Message → Type 0
Arrives heard event node message =
    (heard ≡ Some message) ⊎ ((content : List ℕ) × (event ≡ Forge node content) × (message ≡ Blob node content))

module _ (sha : List ℕ → Digest) where
  -- nothing that was stored goes, and the contents are stored under their digests
  pub record Stored (contents : List (List ℕ)) (store after : Digest → Option (List ℕ)) : Type 0 where
    pub kept : (digest : Digest) (content : List ℕ) → store digest ≡ Some content → after digest ≡ Some content
    pub named : (digest : Digest) (content : List ℕ) → after digest ≡ Some content
        → (store digest ≡ Some content) ⊎ (In content contents × (sha content ≡ digest))
    pub all : (content : List ℕ) → In content contents → (stored : List ℕ) × (after (sha content) ≡ Some stored)

  -- the node finished with nothing to write, or sent its news
  abbrev pub Leaves : List Left → NodeId → Node → Grant → List Want → ℕ → List Message → Node → Type 0
  Leaves [] node state grant wants number sends after =
      (sends ≡ release node state.life grant.ticket ∷ [])
      × (after ≡ record state { asks = set_nth state.asks number (Over (how.Released grant.ticket)) })
  Leaves (left ∷ lefts) node state grant wants number sends after =
      let news : List News = news_of sha (left ∷ lefts) in
      (sends ≡ commit node state.life grant.ticket news ∷ []) × (slots_of news ≡ written grant.slots)
      × Stored (map (λ (item : Left). item.content) (left ∷ lefts)) state.store after.store
      × (after ≡ record state { asks = set_nth state.asks number (Finished wants grant news); store = after.store })

  -- the node has nothing to do at the message
  abbrev pub IsStale : Node → Message → Type 0
  IsStale state (to.ToCoord saying) = ⊥
  IsStale state (to.ToNode (to_node.FromCoord telling)) = (life_of telling ≡ state.life)
      × IsAnsweredBefore state telling
  -- of a content that isn't stored here
  IsStale state (to.ToNode (to_node.Fetch fetch)) = state.store fetch.digest ≡ None
  -- stored already, or the base of no grant
  IsStale state (to.ToNode (to_node.Blob node content)) =
      (state.store (sha content) ≢ None) ⊎ (IsBase state (sha content) → ⊥)

module _ (limits : Limits) where
  -- each other node is asked for each base that isn't stored here, but the empty content
  abbrev pub AsksAround : ℕ → NodeId → Node → List GrantedSlot → List Message → Type 0
  AsksAround size node state slots sends = (granted : GrantedSlot) (other : NodeId) → In granted slots
      → granted.digest ≢ limits.empty → state.store granted.digest ≡ None → 1 ≤ other.0 → other.0 ≤ size
      → other.0 ≢ node.0
      → In (Fetches (record { node = other; from = node; digest = granted.digest })) sends

  -- such a Fetch
  abbrev pub IsFetchFor : ℕ → NodeId → Node → List GrantedSlot → Message → Type 0
  IsFetchFor size node state slots message = (granted : GrantedSlot) × (other : NodeId) × In granted slots
      × (granted.digest ≢ limits.empty) × (state.store granted.digest ≡ None)
      × (1 ≤ other.0) × (other.0 ≤ size) × (other.0 ≢ node.0)
      × (message ≡ Fetches (record { node = other; from = node; digest = granted.digest }))

  -- what a node sends again
  pub data Repeats (size : ℕ) (node : NodeId) (state : Node) : Message → Type 0 where
    Hello_again : Repeats size node state (hello node state.life)
    Acquire_again : (ask : Ask) (wants : List Want) (tenure : Bool) → IsAsk state ask.0 (Open wants tenure)
        → Repeats size node state (acquire node state.life ask wants tenure)
    Commit_again : (number : ℕ) (wants : List Want) (grant : Grant) (news : List News)
        → IsAsk state number (Finished wants grant news)
        → Repeats size node state (commit node state.life grant.ticket news)
    Fetch_again : (number : ℕ) (wants : List Want) (grant : Grant) (recalled : Bool) (message : Message)
        → IsAsk state number (Holding wants grant recalled) → IsFetchFor size node state grant.slots message
        → Repeats size node state message

module _ (sha : List ℕ → Digest) (limits : Limits) where
  -- what the answer of a node says, of its state before and the one after
  abbrev pub NodeMeans : ℕ → Option Message → Event → NodeId → Node → NodeNote → List Message → Node → Type 0
  NodeMeans size heard event node state (node_note.Asked ask) sends after =
      (wants : List Want) × (tenure : Bool) × AsksFor event wants tenure × (ask.0 ≡ length state.asks + 1)
      × (sends ≡ acquire node state.life ask wants tenure ∷ [])
      × (after ≡ record state { asks = state.asks ++ Open wants tenure ∷ [] })
  NodeMeans size heard event node state (node_note.Begun ticket) sends after = (event ≡ Begin node ticket)
      × ((number : ℕ) × (wants : List Want) × (grant : Grant) × (recalled : Bool)
      × IsAsk state number (Holding wants grant recalled) × (grant.ticket ≡ ticket)
      × ((granted : GrantedSlot) → In granted grant.slots → (content : List ℕ)
      × (state.store granted.digest ≡ Some content))
      × (sends ≡ []) × (after ≡ record state { asks = set_nth state.asks number (Running wants grant recalled) }))
  NodeMeans size heard event node state (node_note.Finished ticket) sends after =
      (event ≡ Finish node ticket (lefts_at event))
      × ((number : ℕ) × (wants : List Want) × (grant : Grant) × (recalled : Bool)
      × IsAsk state number (Running wants grant recalled) × (grant.ticket ≡ ticket)
      × Leaves sha (lefts_at event) node state grant wants number sends after)
  NodeMeans size heard event node state (node_note.Aborted ticket) sends after = (event ≡ Abort node ticket)
      × ((number : ℕ) × (wants : List Want) × (grant : Grant) × (recalled : Bool)
      × (IsAsk state number (Holding wants grant recalled) ⊎ IsAsk state number (Running wants grant recalled))
      × (grant.ticket ≡ ticket)
      × (sends ≡ release node state.life ticket ∷ [])
      × (after ≡ record state { asks = set_nth state.asks number (Over (how.Released ticket)) }))
  NodeMeans size heard event node state node_note.Resent sends after = (event ≡ Resend node)
      × In (hello node state.life) sends
      × ((number : ℕ) (wants : List Want) (tenure : Bool) → IsAsk state number (Open wants tenure)
      → In (acquire node state.life (record { 0 = number }) wants tenure) sends)
      × ((number : ℕ) (wants : List Want) (grant : Grant) (news : List News)
      → IsAsk state number (Finished wants grant news)
      → In (commit node state.life grant.ticket news) sends)
      × ((number : ℕ) (wants : List Want) (grant : Grant) (recalled : Bool)
      → IsAsk state number (Holding wants grant recalled)
      → AsksAround limits size node state grant.slots sends)
      × (after ≡ state) × ((message : Message) → In message sends → Repeats limits size node state message)
  NodeMeans size heard event node state (node_note.Life life) sends after =
      (event ≡ RestartNode node) × (life.0 ≡ state.life.0 + 1) × (sends ≡ hello node life ∷ [])
      × (after ≡ has_life state life.0)
  NodeMeans size heard event node state (node_note.Took grant) sends after =
      (heard ≡ Some (Told (told.Granted grant))) × (grant.life ≡ state.life)
      × AsksAround limits size node state grant.slots sends
      × ((wants : List Want) × (tenure : Bool) × IsAsk state grant.ask.0 (Open wants tenure)
      × (after ≡ record state {
        asks = set_nth state.asks grant.ask.0 (Holding wants grant false);
        known = learn_bases grant.slots state.known;
      }))
      × ((message : Message) → In message sends → IsFetchFor limits size node state grant.slots message)
  NodeMeans size heard event node state (node_note.GaveBack ticket) sends after = (grant : Grant)
      × (heard ≡ Some (Told (told.Granted grant))) × (grant.ticket ≡ ticket) × (grant.life ≡ state.life)
      -- of no open ask, nor one that has it
      × ((wants : List Want) (tenure : Bool) → IsAsk state grant.ask.0 (Open wants tenure) → ⊥)
      × ((kept : KeptAsk) → IsAsk state grant.ask.0 kept → keeps kept grant.ticket ≡ false)
      × (sends ≡ release node state.life ticket ∷ []) × (after ≡ state)
  NodeMeans size heard event node state (node_note.Learned ticket) sends after =
      (life : Life) × (versions : List Confirmed)
      × (heard ≡ Some (Told (told.Committed node life ticket versions))) × (life ≡ state.life)
      × ((number : ℕ) × (wants : List Want) × (grant : Grant) × (news : List News)
      × IsAsk state number (Finished wants grant news) × (grant.ticket ≡ ticket) × (sends ≡ [])
      × (after ≡ record state {
        asks = set_nth state.asks number (Over (how.Committed ticket versions));
        known = learn_versions versions state.known;
      }))
  NodeMeans size heard event node state (node_note.Dropped ticket) sends after = (life : Life)
      × (heard ≡ Some (Told (told.Fenced node life ticket))) × (life ≡ state.life)
      × ((number : ℕ) × (wants : List Want) × (grant : Grant) × (news : List News)
      × IsAsk state number (Finished wants grant news) × (grant.ticket ≡ ticket) × (sends ≡ [])
      × (after ≡ record state { asks = set_nth state.asks number (Over (how.Fenced ticket)) }))
  NodeMeans size heard event node state (node_note.Denied why) sends after = (life : Life) × (ask : Ask)
      × (heard ≡ Some (Told (told.Denied node life ask why))) × (life ≡ state.life)
      × ((wants : List Want) × (tenure : Bool) × IsAsk state ask.0 (Open wants tenure) × (sends ≡ [])
      × (after ≡ record state { asks = set_nth state.asks ask.0 (Over (how.Denied why)) }))
  NodeMeans size heard event node state (node_note.Recalled ticket) sends after = (life : Life)
      × (heard ≡ Some (Told (told.Recall node life ticket))) × (life ≡ state.life)
      × ((number : ℕ) × (wants : List Want) × (grant : Grant) × (grant.ticket ≡ ticket) × (sends ≡ []) × (
      (IsAsk state number (Holding wants grant false)
      × (after ≡ record state { asks = set_nth state.asks number (Holding wants grant true) }))
      ⊎ (IsAsk state number (Running wants grant false)
      × (after ≡ record state { asks = set_nth state.asks number (Running wants grant true) }))))
  NodeMeans size heard event node state node_note.SentBlob sends after = (fetch : Fetch) × (content : List ℕ)
      × (heard ≡ Some (Fetches fetch)) × (state.store fetch.digest ≡ Some content)
      × (sends ≡ Blob fetch.from content ∷ []) × (after ≡ state)
  NodeMeans size heard event node state node_note.BlobTaken sends after = (content : List ℕ)
      × Arrives heard event node (Blob node content) × (state.store (sha content) ≡ None) × IsBase state (sha content)
      × (sends ≡ []) × (after ≡ record state { store = keep (sha content) content state.store })
  -- what is stored goes by this alone: each other answer says what the store is then, and has all that was in it
  NodeMeans size heard event node state node_note.Forgot sends after = (digest : Digest) × (content : List ℕ)
      × (event ≡ Forget node digest) × (digest ≢ limits.empty) × (state.store digest ≡ Some content)
      × (IsNeeded state digest → ⊥)
      × (sends ≡ []) × (after ≡ record state { store = without digest state.store })
  NodeMeans size heard event node state node_note.OldLife sends after = (telling : FromCoord)
      × (heard ≡ Some (Told telling)) × ((life_of telling).0 ≢ state.life.0) × (sends ≡ []) × (after ≡ state)
  NodeMeans size heard event node state node_note.Nothing sends after =
      ((message : Message) × Arrives heard event node message × IsStale sha state message) × (sends ≡ [])
      × (after ≡ state)

  -- a node's answer leaves the machine
  abbrev pub NodeDid : ℕ → World → Event → NodeNote → List Message → World → Type 0
  NodeDid size world event answer sends later = (later.machine ≡ world.machine)
      × ((node : NodeId) × (node_at world event ≡ Some node)
      × NodeMeans size (heard_at world event) event node (world.nodes node.0) answer sends (later.nodes node.0))

-- what is delivered is answered by whom it is for
abbrev pub Hears : Option Message → EventNote → Type 0
Hears (Some (to.ToNode message)) said = (answer : NodeNote) × (said ≡ note.Node answer)
Hears other said = ⊤

-- how the event is answered, and which executions run then
abbrev pub Did : World → Event → EventNote → World → Type 0
Did world (replay.Ask node wants) said later = (ask : Ask) × (said ≡ note.Node (node_note.Asked ask))
Did world (Tenure node folder) said later = (ask : Ask) × (said ≡ note.Node (node_note.Asked ask))
Did world (Deliver number) said later = Hears (nth world.pool number) said
Did world (Resend node) said later = said ≡ note.Node node_note.Resent
Did world (Forge node content) said later = (answer : NodeNote) × (said ≡ note.Node answer)
Did world (Forget node digest) said later = said ≡ note.Node node_note.Forgot
Did world (FailSave kept) said later = said ≡ note.Armed
Did world (Begin node ticket) said later = (said ≡ note.Node (node_note.Begun ticket))
    × ((grant : Grant) × (wants : List Want) × (grant.ticket ≡ ticket)
    × (InUse world node grant wants → ⊥) × InUse later node grant wants)
Did world (Finish node ticket lefts) said later = (said ≡ note.Node (node_note.Finished ticket))
    × ((grant : Grant) × (wants : List Want) × (grant.ticket ≡ ticket)
    × InUse world node grant wants × (InUse later node grant wants → ⊥))
-- of an execution, or of a grant that wasn't begun
Did world (Abort node ticket) said later = (said ≡ note.Node (node_note.Aborted ticket))
    × ((grant : Grant) (wants : List Want) → grant.ticket ≡ ticket → InUse later node grant wants → ⊥)
Did world (RestartNode node) said later = ((life : Life) × (said ≡ note.Node (node_note.Life life)))
    × ((grant : Grant) (wants : List Want) → InUse later node grant wants → ⊥)
Did world event said later = ⊤

-- ---- what an ask waits for

-- a lease for the ask takes a slot of a folder of this mode: a tenure's of its SHARED folder, any other's of each other
-- folder
abbrev pub takes_slot : Bool → Mode → Bool
takes_slot true Shared = true
takes_slot true Private = false
takes_slot true Locked = false
takes_slot false Shared = false
takes_slot false Private = true
takes_slot false Locked = true

-- a slot of the folder is free: one of the instances of a PRIVATE folder, the only slot of another
abbrev pub HasFreeSlot : ℕ → Machine → FolderName → Mode → Type 0
HasFreeSlot instances machine folder Private =
    (number : ℕ) × (1 ≤ number) × (number ≤ instances) × Free machine (instance_of folder number)
HasFreeSlot instances machine folder Locked = Leased machine (instance_of folder 0) → ⊥
HasFreeSlot instances machine folder Shared = Leased machine (instance_of folder 0) → ⊥

-- each instance of the folder is leased or retired
abbrev pub AllTaken : ℕ → Machine → FolderName → Type 0
AllTaken instances machine folder = (number : ℕ) → 1 ≤ number → number ≤ instances
    → Leased machine (instance_of folder number) ⊎ Retired machine (instance_of folder number)

-- a tenure waits while another node is the old home
abbrev pub IsElsewhere : Machine → Parked → Type 0
IsElsewhere machine parked =
    (parked.tenure ≡ true) × ((home : NodeId) × (machine.old_home ≡ Some home) × (home.0 ≢ parked.node.0))

-- the grant answers this ask
abbrev pub IsOf : NodeId → Life → Ask → Grant → Type 0
IsOf node life ask grant = (grant.node ≡ node) × (grant.life ≡ life) × (grant.ask ≡ ask)

module _ (limits : Limits) where
  -- a slot of each folder that the ask takes one of is free
  abbrev pub AreFree : Machine → Parked → Type 0
  AreFree machine parked = (want : Want) → In want parked.wants → takes_slot parked.tenure want.folder.mode ≡ true
      → HasFreeSlot limits.instances machine want.folder want.folder.mode

  -- the ask could be granted: it has not to wait for another node, its slots are free, and a ticket is left
  pub record CouldBeGranted (machine : Machine) (parked : Parked) : Type 0 where
    pub here : IsElsewhere machine parked → ⊥
    pub free : AreFree machine parked
    pub ticket : machine.last < limits.greatest

  -- the only slot of a folder that it takes one of is leased, and of each PRIVATE one an instance is free
  pub record IsHeldUp (machine : Machine) (parked : Parked) : Type 0 where
    pub leased : (want : Want) × In want parked.wants × (takes_slot parked.tenure want.folder.mode ≡ true)
        × (want.folder.mode ≢ Private) × Leased machine (instance_of want.folder 0)
    pub free : (want : Want) → In want parked.wants → want.folder.mode ≡ Private
        → HasFreeSlot limits.instances machine want.folder Private

  -- why an ask with these wants is denied
  abbrev pub DeniedBecause : Machine → List Want → Why → Type 0
  DeniedBecause machine wants why.InstancesSpent =
      (want : Want) × In want wants × (want.folder.mode ≡ Private) × AllTaken limits.instances machine want.folder
  DeniedBecause machine wants why.TicketsSpent = limits.greatest ≤ machine.last

  -- an ask that was denied so: it was sent, there is the reason, and it is neither leased nor parked
  pub record IsDenied (pool : List Message) (machine : Machine) (node : NodeId) (life : Life)
      (ask : Ask) (because : Why) : Type 0 where
    pub wants : List Want
    pub tenure : Bool
    pub asked : In (acquire node life ask wants tenure) pool
    pub reason : DeniedBecause machine wants because
    pub unleased : (grant : Grant) → Live machine grant → IsOf node life ask grant → ⊥
    pub unparked : (parked : Parked) → In parked machine.parked
        → (parked.node ≡ node) × (parked.life ≡ life) × (parked.ask ≡ ask) → ⊥

-- a live grant with these names is awaited
abbrev pub IsRecalled : Machine → NodeId → Life → Ticket → Type 0
IsRecalled machine node life ticket = (grant : Grant) × Live machine grant
    × (grant.node ≡ node) × (grant.life ≡ life) × (grant.ticket ≡ ticket) × IsAwaited machine grant

-- ---- in which order

-- each instance of a PRIVATE folder that is lower than the grant's is retired, or leased by an older grant
abbrev pub HasLowest : Machine → Grant → Type 0
HasLowest machine grant = (slot : Slot) (number : ℕ) → Has grant slot → slot.folder.mode ≡ Private
    → 1 ≤ number → number < slot.instance
    → Retired machine (instance_of slot.folder number)
    ⊎ ((older : Grant) × Live machine older × older.ticket.0 < grant.ticket.0
    × Has older (instance_of slot.folder number))

-- the machine without what was given from this ticket on: as it stood when the ticket was given, where no grant has
-- ended since
abbrev pub before : Ticket → Machine → Machine
before ticket machine =
    record machine { made = filter (λ given. nat_lt (ticket_of given) ticket.0) machine.made; last = ticket.0 - 1 }

-- a lease of the ask is older than the ticket
abbrev pub WasFirst : Machine → Parked → Ticket → Type 0
WasFirst machine parked ticket =
    (older : Grant) × Live machine older × IsOf parked.node parked.life parked.ask older × (older.ticket.0 < ticket.0)

-- the oldest ask first: a new grant passes over no ask that came before its own. Each that was parked before it, and
-- that the event doesn't drop, has an older lease or could not be granted when this one was. No parked ask could be
-- granted in the machine before the event (`NoParkedAskCouldBeGranted`)
abbrev pub PassesOverNone : Limits → (Parked → Type 0) → Machine → Machine → Grant → Type 0
PassesOverNone limits drops machine after grant =
    ((parked : Parked) → In parked machine.parked → CouldBeGranted limits machine parked → ⊥)
    → (early late : List Parked) (parked : Parked) → machine.parked ≡ early ++ parked ∷ late
    → ((other : Parked) → In other (early ++ parked ∷ []) → IsOf other.node other.life other.ask grant → ⊥)
    → drops parked
    ⊎ (WasFirst after parked grant.ticket ⊎ (CouldBeGranted limits (before grant.ticket after) parked → ⊥))

-- parked asks stand in the order in which they came: those that stay keep it, and one that is new is the last; it is
-- the one that was delivered, and is answered Parked
abbrev pub KeepsOrder : World → Event → EventNote → List Parked → List Parked → Type 0
KeepsOrder world event said old new = HasPart old new
    ⊎ ((stay : List Parked) × (parked : Parked) × HasPart old stay × (In parked old → ⊥) × (new ≡ stay ++ parked ∷ [])
    × (heard_at world event ≡ Some (acquire parked.node parked.life parked.ask parked.wants parked.tenure))
    × (said ≡ note.Coord coord.Parked))

-- ---- to what the coordinator replies

-- the ask was parked, or is the one that the event delivers
abbrev pub IsDue : World → Event → NodeId → Life → Ask → Type 0
IsDue world event node life ask =
    ((parked : Parked) × In parked (Finds world event).parked
    × (parked.node ≡ node) × (parked.life ≡ life) × (parked.ask ≡ ask))
    ⊎ ((wants : List Want) × (tenure : Bool) × (heard_at world event ≡ Some (acquire node life ask wants tenure)))

-- the event delivers a Commit of this node and life under the ticket
abbrev pub IsCommit : World → Event → NodeId → Life → Ticket → Type 0
IsCommit world event node life ticket = (news : List News)
    × (heard_at world event ≡ Some (commit node life ticket news))

-- what is granted or denied is due, but for what a nudge sends again; a confirmation or a fence goes to who sent the
-- Commit, as the event is answered
abbrev pub Replies : World → Event → EventNote → FromCoord → Type 0
Replies world event said (told.Granted grant) =
    IsDue world event grant.node grant.life grant.ask ⊎ (said ≡ note.Coord coord.Nudged)
Replies world event said (told.Committed node life ticket versions) = IsCommit world event node life ticket
    × ((said ≡ note.Coord (coord.Committed ticket)) ⊎ (said ≡ note.Coord (coord.CommittedBefore ticket)))
Replies world event said (told.Fenced node life ticket) =
    IsCommit world event node life ticket × (said ≡ note.Coord (coord.Fenced ticket))
Replies world event said (told.Denied node life ask why) = IsDue world event node life ask
Replies world event said (told.Recall node life ticket) = ⊤

-- the last ticket rises by at most one for each message sent, by one more at a prune, by at most 64 more at a restart
abbrev pub FewTickets : Event → ℕ → ℕ → ℕ → Type 0
FewTickets (Prune slot) last sent after = after ≤ last + 1 + sent
FewTickets RestartCoordinator last sent after = after ≤ last + 64 + sent
FewTickets event last sent after = after ≤ last + sent

-- the number of the first message that is sent after these, 0 where none is
abbrev pub first_number : List Message → List Message → ℕ
first_number pool [] = 0
first_number pool (message ∷ sent) = length pool + 1

module _ (sha : List ℕ → Digest) where
  -- what the record holds after a refused event: the machine before, or what the event would have made of it
  abbrev pub Survives : World → Event → Machine → Type 0
  Survives world event kept = (kept ≡ world.machine)
      ⊎ ((answer : CoordNote) × (sends : List Message) × Carried (sha []) world event (note.Coord answer) sends kept
      × ((grant : Grant) → In (Granted grant) kept.made → In (Granted grant) (Finds world event).made
      ⊎ HasLowest kept grant))

  -- a refused event changes no lease, sends nothing, and leaves what each node keeps, asks and knows; where its save
  -- failed the coordinator is down
  pub record Unchanged (world : World) (event : Event) (why : EventRefusal) (later : World) : Type 0 where
    pub down : (later.down ≡ world.down) ⊎ ((why ≡ refusal.Coord coord_refusal.SaveFault)
        × ((kept : Machine) × (later.down ≡ Some kept) × Survives world event kept))
    pub machine : later.machine ≡ world.machine
    pub pool : later.pool ≡ world.pool
    -- a node whose greatest life is over is down for good
    pub nodes : (number : ℕ) → (later.nodes number ≡ world.nodes number)
        ⊎ ((event ≡ RestartNode (record { 0 = number }))
        × (later.nodes number ≡ record (world.nodes number) { spent = true }))

module _ (sha : List ℕ → Digest) (limits : Limits) where
  -- an accepted event of a farm of `size` nodes
  pub record Answered (size : ℕ) (world : World) (event : Event) (outcome : Outcome) (later : World) : Type 0 where
    pub sent : List Message
    pub pool : later.pool ≡ world.pool ++ sent
    -- a coordinator that is down stays so until it restarts
    pub down : (later.down ≡ world.down) ⊎ ((event ≡ RestartCoordinator) × (later.down ≡ None))
    -- the answer says how many messages were sent, and the number of the first
    pub count : outcome.sent ≡ length sent
    pub first : outcome.first ≡ first_number world.pool sent
    pub carried : Carried (sha []) world event outcome.note sent later.machine
    -- a grant that is new has a ticket above the last, and at most the last now
    pub above : (grant : Grant) → In (Granted grant) later.machine.made → In (Granted grant) (Finds world event).made
        ⊎ (((Finds world event).last < grant.ticket.0) × (grant.ticket.0 ≤ later.machine.last))
    pub tickets : FewTickets event (Finds world event).last (length sent) later.machine.last
    pub recalled : (node : NodeId) (life : Life) (ticket : Ticket) → In (Told (told.Recall node life ticket)) sent
        → IsRecalled later.machine node life ticket
    pub denied : (node : NodeId) (life : Life) (ask : Ask) (because : Why)
        → In (Told (told.Denied node life ask because)) sent
        → IsDenied limits world.pool later.machine node life ask because
    pub node : (answer : NodeNote) → outcome.note ≡ note.Node answer
        → NodeDid sha limits size world event answer sent later
    -- no other node changes
    pub others : (other : NodeId) → (later.nodes other.0 ≡ world.nodes other.0) ⊎ (node_at world event ≡ Some other)
    pub used : Used world event later
    pub did : Did world event outcome.note later
    -- a grant that is new has the lowest instances, and its ask was the first that could be granted
    pub lowest : (grant : Grant) → In (Granted grant) later.machine.made
        → In (Granted grant) (Finds world event).made ⊎ HasLowest later.machine grant
    pub oldest : (grant : Grant) → In (Granted grant) later.machine.made → In (Granted grant) (Finds world event).made
        ⊎ PassesOverNone limits (DropsAt world.pool event) (Finds world event) later.machine grant
    pub queue : KeepsOrder world event outcome.note (Finds world event).parked later.machine.parked
    pub replies : (telling : FromCoord) → In (Told telling) sent → Replies world event outcome.note telling

  -- an event with this outcome, from the world before it to the world after it
  abbrev pub Means : ℕ → World → Event → Result Outcome EventRefusal → World → Type 0
  Means size world event (Ok outcome) later = Answered size world event outcome later
  Means size world event (Err why) later = Unchanged sha world event why later
