-- Nodes that were taken over. Each node has a key of its own, which the coordinator and that node alone have: whoever takes
-- a node over may write any line under its key, and no line under another's. What is promised then of every run.
use Rattle.std.specs.Prelude.{◌≡◌, ◌≢◌, ℕ, ◌<◌, ◌≤◌, Bool, true, false, List, [], ◌∷◌, ◌++◌, ◌⊎◌, Option, Some, None, slice_get, Ok}
use Rattle.farm_base.specs.Kinds.{is_tenure}
use Rattle.farm_base.specs.Receivers.{told_to}
use Rattle.farm_base.specs.declared.message.Message.TheVariants as to
use Rattle.farm_base.specs.declared.message.ToNode.TheVariants as to_node
use Rattle.farm_base.specs.declared.message.FromCoord.TheVariants as told
use Rattle.protocol.specs.Lists.{In, IsFrontOf, put}
use Rattle.protocol.specs.Names.{Slot, is_alone, is_private, wants_shared, only_slot, NodeId, Life, Ask, Ticket, Digest, Want, FolderName, tenure_wants}
use Rattle.protocol.specs.Machine.{GrantedSlot, Grant, News, LineVersion, Confirmed, ToCoord, Granted, Pruned, Ending, Committed, Released, Withdrawn, Died, Message, Told, commit, release, acquire, WasHeard, AnswersAsk, Has, Live, Machine, digest_for, written, slots_of, Names, Stands}
use Rattle.protocol.specs.World.{Node, World, Move, start}
use Rattle.farm_base.specs.declared.message.Request.TheVariants.{Hello}
use Rattle.protocol.specs.Ledger.{Limits, Ledger, Lease, Work, begin_work, handled, writable_slots}
use Rattle.protocol.specs.Ledger as ledgers
use Rattle.protocol.specs.Lawful.{IsLawful}
use Rattle.protocol.specs.Follows.{IsFarm, Agrees, EveryDecision}
use Rattle.protocol.specs.Safe.{InUse, HoldsContent, IsWithdrawn, OnALine, Rising, Falling, line_in}

-- ---- what a taken-over node can do

-- under whose key a line stands: that of the node that says it, or that the coordinator says it to. A Fetch and a Blob
-- stand under none: a content is taken by its digest, whoever sent it
abbrev pub key_of : Message → Option NodeId
key_of (to.ToCoord saying) = Some saying.node
key_of (to.ToNode (to_node.FromCoord telling)) = Some (told_to telling)
key_of (to.ToNode (to_node.Fetch fetch)) = None
key_of (to.ToNode (to_node.Blob node content)) = None

-- `taken` says which nodes were taken over, whenever that was
module _ (taken : ℕ → Bool) where
  -- the line stands under the key of a node that was not taken over
  abbrev pub IsSealed : Message → Type 0
  IsSealed message = (node : NodeId) × (key_of message ≡ Some node) × (taken node.0 ≡ false)

  module _ (sha : List ℕ → Digest) where
    -- one move of a farm of which these nodes were taken over
    pub data Raid (world : World) : World → Type 0 where
      -- the coordinator moves, or a node does something that the rules let it do
      Plays : (later : World) → Move sha world later → Raid world later
      -- any line that is under no honest node's key is written: any life, ask, ticket, wants or news, any number of times
      Forges : (message : Message) → (IsSealed message → ⊥)
          → Raid world (record world { pool = world.pool ++ message ∷ [] })
      -- what a taken-over node has in memory and on its disk is whatever it likes
      Turns : (node : NodeId) (state : Node) → taken node.0 ≡ true
          → Raid world (record world { nodes = put node.0 state world.nodes })

    -- any number of them
    pub data Raids : World → World → Type 0 where
      Calm : (world : World) → Raids world world
      After : (world middle later : World) → Raids world middle → Raid middle later → Raids world later

-- ---- what is promised still

-- why a lease ended: its own node said so, in the life that was leased to, or in a newer one; or the operator withdrew it
abbrev pub IsCause : List Message → Grant → Ending → Type 0
IsCause pool grant (Committed news) =
    In (commit grant.node grant.life grant.ticket news) pool × (slots_of news ≡ written grant.slots) × (news ≢ [])
IsCause pool grant Released = In (release grant.node grant.life grant.ticket) pool
IsCause pool grant Withdrawn = is_tenure grant.kind ≡ false
IsCause pool grant Died = (life : Life) × WasHeard pool grant.node life × (grant.life.0 < life.0)

-- the version was added by the prune of its slot, or by a Commit of the node that its ticket was granted to, in the life
-- that it was granted to, of a slot that this node was leased to write. Its digest is the one that this Commit named
pub data IsOf (empty : Digest) (pool : List Message) (machine : Machine) (slot : Slot) (version : LineVersion)
    : Type 0 where
  Of_prune : In (Pruned version.ticket slot) machine.made → version.digest ≡ empty → IsOf empty pool machine slot version
  Of_commit : (grant : Grant) (news : List News) → In (Granted grant) machine.made → grant.ticket ≡ version.ticket
      → In (commit grant.node grant.life grant.ticket news) pool
      → digest_for slot news ≡ Some version.digest
      → In slot (written grant.slots)
      → IsOf empty pool machine slot version

module _ (taken : ℕ → Bool) (sha : List ℕ → Digest) where
  -- the node was not taken over
  abbrev IsHonest : NodeId → Type 0
  IsHonest node = taken node.0 ≡ false

  -- of every world that a raided farm comes to. `Safe`, with what it says of nodes said of honest ones
  pub record SafeAmong (world : World) : Type 0 where
    -- no two grants or prunes have one ticket, and tickets strictly rise along each line
    pub tickets : Falling world.machine.made
    pub rising : (slot : Slot) → Rising (line_in sha world slot)
    -- each version is of a prune, or of its ticket's own node, life and lease: none is of a node that was not leased the
    -- slot, and none of an honest node but what that node committed
    pub versions : (slot : Slot) (version : LineVersion) → In version (line_in sha world slot)
        → IsOf (sha []) world.pool world.machine slot version
    -- an honest node commits one thing under a ticket, in one life: so each of its versions is what it committed
    pub one_commit : (node : NodeId) (life : Life) (ticket : Ticket) (news news' : List News) → IsHonest node
        → In (commit node life ticket news) world.pool
        → In (commit node life ticket news') world.pool
        → news ≡ news'
    -- a version follows the one that its grant began from
    pub bases : (slot : Slot) (index : ℕ) (version : LineVersion) (grant : Grant)
        → slice_get (line_in sha world slot) index ≡ Some version
        → In (Granted grant) world.machine.made
        → grant.ticket ≡ version.ticket
        → (granted_slot : GrantedSlot)
        × In granted_slot grant.slots
        × (granted_slot.slot ≡ slot)
        × (granted_slot.base ≡ index)
    -- each lease was asked for by its own node, in that life, and has a slot for each want
    pub asked : (grant : Grant) → In (Granted grant) world.machine.made
        → (wants : List Want)
        × In (acquire grant.node grant.life grant.ask wants (is_tenure grant.kind)) world.pool
        × AnswersAsk grant wants
    -- no lease was ended but by its own node, or by the operator
    pub causes : (grant : Grant) (ending : Ending) → In (Granted grant) world.machine.made
        → world.machine.ending grant.ticket.0 ≡ Some ending
        → IsCause world.pool grant ending
    -- no two live leases share a slot, whosever they are
    pub one_lease : (grant grant' : Grant) (slot : Slot) → Live world.machine grant → Live world.machine grant'
        → Has grant slot
        → Has grant' slot
        → grant ≡ grant'
    -- a PRIVATE instance of a lease that was withdrawn is in no newer lease
    pub instances : (grant grant' : Grant) (slot : Slot) → In (Granted grant) world.machine.made
        → In (Granted grant') world.machine.made
        → world.machine.ending grant.ticket.0 ≡ Some Withdrawn
        → is_private slot.folder.mode ≡ true
        → Has grant slot
        → Has grant' slot
        → grant'.ticket.0 ≤ grant.ticket.0
    -- no withdrawn ticket stands on a line, whosever it is
    pub withdrawn : (ticket : Ticket) → IsWithdrawn world.machine ticket → OnALine (sha []) world.machine ticket → ⊥
    -- a retired node has no lease
    pub retired : (grant : Grant) → Live world.machine grant → world.machine.gone grant.node.0 ≡ false
    -- what an honest node was ever granted, told to be committed, or told to be fenced, is so
    pub granted : (grant : Grant) (granted_slot : GrantedSlot) → IsHonest grant.node
        → In (Told (told.Granted grant)) world.pool
        → In granted_slot grant.slots
        → Names (sha []) (line_in sha world granted_slot.slot) granted_slot.base granted_slot.digest
    pub confirmed : (node : NodeId) (life : Life) (ticket : Ticket) (versions : List Confirmed) (version : Confirmed)
        → IsHonest node
        → In (Told (told.Committed node life ticket versions)) world.pool
        → In version versions
        → Stands (sha []) world.machine ticket version
    pub unconfirmed : (node : NodeId) (life : Life) (ticket : Ticket) (versions : List Confirmed) → IsHonest node
        → IsWithdrawn world.machine ticket
        → In (Told (told.Committed node life ticket versions)) world.pool
        → ⊥
    pub fenced : (node : NodeId) (life : Life) (ticket : Ticket) → IsHonest node
        → In (Told (told.Fenced node life ticket)) world.pool
        → OnALine (sha []) world.machine ticket
        → ⊥
    -- no two executions of honest nodes have one PRIVATE instance, or one tenure's slot
    pub alone : (node node' : NodeId) (grant grant' : Grant) (wants wants' : List Want) (slot : Slot)
        → IsHonest node
        → IsHonest node'
        → InUse world node grant wants
        → InUse world node' grant' wants'
        → Has grant slot
        → Has grant' slot
        → (is_alone slot ≡ true)
        → (node ≡ node') × (grant ≡ grant')
    -- of those that share a slot at most one has a live ticket
    pub one_live : (node node' : NodeId) (grant grant' : Grant) (wants wants' : List Want) (slot : Slot)
        → IsHonest node
        → IsHonest node'
        → InUse world node grant wants
        → InUse world node' grant' wants'
        → Has grant slot
        → Has grant' slot
        → (world.machine.ending grant.ticket.0 ≡ None)
        → (world.machine.ending grant'.ticket.0 ≡ None)
        → (node ≡ node') × (grant ≡ grant')
    -- and an honest execution that wants a SHARED folder is where the tenure of it is in use
    pub at_home : (node : NodeId) (grant : Grant) (wants : List Want) (want : Want) → IsHonest node
        → InUse world node grant wants
        → In want wants
        → wants_shared want ≡ true
        → (other : Grant) × (other_wants : List Want)
        × InUse world node other other_wants
        × (is_tenure other.kind ≡ true)
        × Has other (only_slot want.folder)

  -- of such a world and a later one
  pub record SafeAmongSince (world later : World) : Type 0 where
    -- a line only grows, and the last ticket only rises
    pub lines : (slot : Slot) → IsFrontOf (line_in sha world slot) (line_in sha later slot)
    pub last : world.machine.last ≤ later.machine.last
    -- two honest nodes, one of them earlier, hold one content for a version, whoever committed it, or the two contents
    -- are a collision
    pub contents : (node node' : NodeId) (slot : Slot) (number : ℕ) (content content' : List ℕ)
        → IsHonest node
        → IsHonest node'
        → HoldsContent (world.nodes node.0) slot number content
        → HoldsContent (later.nodes node'.0) slot number content'
        → (content ≡ content') ⊎ ((content ≢ content') × (sha content ≡ sha content'))
    -- once a node is retired it stays so: it is granted nothing, its leases have ended, and no line gets a version of it
    pub gone : (node : NodeId) → world.machine.gone node.0 ≡ true → later.machine.gone node.0 ≡ true
    pub ungranted : (grant : Grant) → world.machine.gone grant.node.0 ≡ true → In (Granted grant) later.machine.made
        → In (Granted grant) world.machine.made
    pub silent : (grant : Grant) (slot : Slot) (version : LineVersion) → world.machine.gone grant.node.0 ≡ true
        → In (Granted grant) later.machine.made
        → In version (line_in sha later slot)
        → version.ticket ≡ grant.ticket
        → In version (line_in sha world slot)

-- whatever nodes were taken over
abbrev pub EveryRaidIsSafe : Type 0
EveryRaidIsSafe = (taken : ℕ → Bool) (sha : List ℕ → Digest) (world : World) → Raids taken sha (start sha) world
    → SafeAmong taken sha world

abbrev pub EveryRaidStaysSafe : Type 0
EveryRaidStaysSafe =
    (taken : ℕ → Bool) (sha : List ℕ → Digest) (world later : World)
    → Raids taken sha (start sha) world
    → Raids taken sha world later
    → SafeAmongSince taken sha world later

-- ---- and the coordinator does no more than this

-- a tenure is asked for with one SHARED folder, writable: a line that asks for another is no line of the protocol
abbrev pub AsksFit : List Message → Type 0
AsksFit pool = (node : NodeId) (life : Life) (ask : Ask) (wants : List Want)
    → In (acquire node life ask wants true) pool
    → (folder : FolderName) × (wants ≡ tenure_wants folder)

-- whatever a taken-over node says, what the coordinator decides on the ledger is what its machine may do and say
abbrev pub EveryRaidedDecisionFollows : Type 0
EveryRaidedDecisionFollows = (taken : ℕ → Bool) (sha : List ℕ → Digest) (limits : Limits) → IsFarm sha limits
    → (world : World) → Raids taken sha (start sha) world → AsksFit world.pool
    → (ledger : Ledger) → Agrees limits.empty world.pool world.machine ledger
    → EveryDecision limits world.pool world.machine ledger

-- ---- whatever message comes, on the ledger alone

-- the line has one version more: under the ticket of a lease of this node and life, which may write the slot
abbrev pub IsCommitted : Ledger → ToCoord → Slot → List LineVersion → Type 0
IsCommitted ledger saying slot after = (lease : Lease) × (digest : Digest) × In lease ledger.live × (lease.node ≡ saying.node)
    × (lease.life ≡ saying.life)
    × In slot (writable_slots lease.slots)
    × (after ≡ ledger.line slot ++ record { ticket = lease.ticket; digest = digest } ∷ [])

-- a message of a node touches what is leased to that node, and nothing else of what the coordinator keeps
pub record TouchesOnlyItsOwn (ledger : Ledger) (saying : ToCoord) (after : Ledger) : Type 0 where
  pub leases : (lease : Lease) → In lease ledger.live → lease.node ≢ saying.node → In lease after.live
  pub lines : (slot : Slot) → (after.line slot ≡ ledger.line slot) ⊎ IsCommitted ledger saying slot (after.line slot)
  pub lives : (number : ℕ) → number ≢ saying.node.0 → after.lives number ≡ ledger.lives number
  pub gone : after.gone ≡ ledger.gone
  pub retired : after.retired ≡ ledger.retired
  pub last : ledger.last ≤ after.last
  -- and one of a retired node nothing
  pub silent : ledger.gone saying.node.0 ≡ true → after ≡ ledger

abbrev pub EveryMessageTouchesItsOwn : Type 0
EveryMessageTouchesItsOwn = (top : ℕ) (limits : Limits) (ledger : Ledger) → IsLawful top ledger → (saying : ToCoord)
    → TouchesOnlyItsOwn ledger saying (handled limits saying (begin_work ledger)).ledger

-- ---- how a node is put out

-- a Hello of the greatest life, which is for the operator to say of a node that was taken over
abbrev pub last_word : Limits → NodeId → ToCoord
last_word limits node = record { node = node; life = record { 0 = limits.greatest }; request = Hello }

-- after it the node has no lease, no tenure either, none of its PRIVATE instances is lost, and it can be retired
pub record IsPutOut (limits : Limits) (ledger : Ledger) (node : NodeId) (after : Ledger) : Type 0 where
  pub leases : (lease : Lease) → In lease after.live → lease.node ≢ node
  pub instances : after.retired ≡ ledger.retired
  pub retires : (work : Work) × (ledgers.retired limits node (begin_work after) ≡ Ok work)
      × (work.ledger.gone node.0 ≡ true)
      × (work.ledger.retired ≡ ledger.retired)

abbrev pub EveryNodeCanBePutOut : Type 0
EveryNodeCanBePutOut = (top : ℕ) (limits : Limits) (ledger : Ledger) → IsLawful top ledger → (node : NodeId)
    → ledger.gone node.0 ≡ false
    → ledger.lives node.0 < limits.greatest
    → IsPutOut limits ledger node (handled limits (last_word limits node) (begin_work ledger)).ledger
