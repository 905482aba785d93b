-- What is promised of every run (docs/PROTOCOL.md, "What is safe").
use Rattle.std.specs.Prelude.{◌≡◌, ◌≢◌, ℕ, ◌<◌, Bool, List, [], ◌∷◌, ◌⊎◌, Some, None, true, slice_get, ⊤}
use Rattle.farm_base.specs.Kinds.{is_tenure}
use Rattle.protocol.specs.Lists.{In, IsFrontOf, nth}
use Rattle.protocol.specs.Names.{Slot, is_alone, wants_shared, only_slot, NodeId, Life, Ticket, Digest, Want}
use Rattle.protocol.specs.Machine.{GrantedSlot, Grant, LineVersion, Confirmed, Made, Granted, ticket_of, Told, Has, Withdrawn, Died, line, Names, Stands, Machine}
use Rattle.farm_base.specs.declared.message.FromCoord.TheVariants as told
use Rattle.protocol.specs.World.{World, Node, Running, Moves, start}

-- the node executes under the grant, for these wants
abbrev pub InUse : World → NodeId → Grant → List Want → Type 0
InUse world node grant wants =
    (place : ℕ) × (recalled : Bool) × (nth (world.nodes node.0).asks place ≡ Some (Running wants grant recalled))

-- the node holds the content for this version of the slot
abbrev pub HoldsContent : Node → Slot → ℕ → List ℕ → Type 0
HoldsContent state slot number content =
    (digest : Digest) × (state.known slot number ≡ Some digest) × (state.store digest ≡ Some content)

-- the grant of the ticket was withdrawn, or its life was over
abbrev pub IsWithdrawn : Machine → Ticket → Type 0
IsWithdrawn machine ticket = (machine.ending ticket.0 ≡ Some Withdrawn) ⊎ (machine.ending ticket.0 ≡ Some Died)

-- a version of the ticket stands on a line
abbrev pub OnALine : Digest → Machine → Ticket → Type 0
OnALine empty machine ticket =
    (slot : Slot) × (version : LineVersion) × In version (line empty machine slot) × (version.ticket ≡ ticket)

-- the tickets rise along the line
abbrev pub Rising : List LineVersion → Type 0
Rising [] = ⊤
Rising (version ∷ versions) =
    ((newer : LineVersion) → In newer versions → version.ticket.0 < newer.ticket.0) × Rising versions

-- the tickets fall: the newest stands first
abbrev pub Falling : List Made → Type 0
Falling [] = ⊤
Falling (given ∷ made) = ((older : Made) → In older made → ticket_of older < ticket_of given) × Falling made

module _ (sha : List ℕ → Digest) where
  -- the line of the slot in the world
  abbrev pub line_in : World → Slot → List LineVersion
  line_in world slot = line (sha []) world.machine slot

  -- what holds in every world that a run comes to
  pub record Safe (world : World) : Type 0 where
    -- no two grants or prunes have one ticket: the newest stands first
    pub tickets : Falling world.machine.made
    -- tickets strictly rise along each line
    pub rising : (slot : Slot) → Rising (line_in world slot)
    -- what a Grant ever sent names is on its line, or is version 0, which is empty
    pub granted : (grant : Grant) (granted_slot : GrantedSlot)
        → In (Told (told.Granted grant)) world.pool
        → In granted_slot grant.slots
        → Names (sha []) (line_in world granted_slot.slot) granted_slot.base granted_slot.digest
    -- what a confirmation ever sent names stands on its line under its ticket
    pub confirmed : (node : NodeId) (life : Life) (ticket : Ticket) (versions : List Confirmed) (version : Confirmed)
        → In (Told (told.Committed node life ticket versions)) world.pool
        → In version versions
        → Stands (sha []) world.machine ticket version
    -- a commit follows the version that its grant began from
    pub bases : (slot : Slot) (index : ℕ) (version : LineVersion) (grant : Grant)
        → slice_get (line_in world slot) index ≡ Some version
        → In (Granted grant) world.machine.made
        → grant.ticket ≡ version.ticket
        → (granted_slot : GrantedSlot)
        × In granted_slot grant.slots
        × (granted_slot.slot ≡ slot)
        × (granted_slot.base ≡ index)
    -- no withdrawn ticket stands on a line, or is confirmed
    pub withdrawn : (ticket : Ticket) → IsWithdrawn world.machine ticket → OnALine (sha []) world.machine ticket → ⊥
    pub unconfirmed : (node : NodeId) (life : Life) (ticket : Ticket) (versions : List Confirmed)
        → IsWithdrawn world.machine ticket
        → In (Told (told.Committed node life ticket versions)) world.pool
        → ⊥
    -- no ticket that was fenced stands on a line
    pub fenced : (node : NodeId) (life : Life) (ticket : Ticket)
        → In (Told (told.Fenced node life ticket)) world.pool
        → OnALine (sha []) world.machine ticket
        → ⊥
    -- no two executions have one PRIVATE instance, or one tenure's slot
    pub alone : (node node' : NodeId) (grant grant' : Grant) (wants wants' : List Want) (slot : Slot)
        → InUse world node grant wants
        → InUse world node' grant' wants'
        → Has grant slot
        → Has grant' slot
        → (is_alone slot ≡ true)
        → (node ≡ node') × (grant ≡ grant')
    -- of the executions that share a slot at most one has a live ticket
    pub one_live : (node node' : NodeId) (grant grant' : Grant) (wants wants' : List Want) (slot : Slot)
        → InUse world node grant wants
        → InUse world node' grant' wants'
        → Has grant slot
        → Has grant' slot
        → (world.machine.ending grant.ticket.0 ≡ None)
        → (world.machine.ending grant'.ticket.0 ≡ None)
        → (node ≡ node') × (grant ≡ grant')
    -- an execution that wants a SHARED folder is on a node where the tenure of it is in use
    pub at_home : (node : NodeId) (grant : Grant) (wants : List Want) (want : Want)
        → InUse world node grant wants
        → In want wants
        → wants_shared want ≡ true
        → (other : Grant) × (other_wants : List Want)
        × InUse world node other other_wants
        × (is_tenure other.kind ≡ true)
        × Has other (only_slot want.folder)

  -- what holds of a world and a later one of the same run
  pub record SafeSince (world later : World) : Type 0 where
    -- a line only grows
    pub lines : (slot : Slot) → IsFrontOf (line_in world slot) (line_in later slot)
    -- two nodes, one of them earlier, hold one content for a version, or the two contents are a collision
    pub contents : (node node' : NodeId) (slot : Slot) (number : ℕ) (content content' : List ℕ)
        → HoldsContent (world.nodes node.0) slot number content
        → HoldsContent (later.nodes node'.0) slot number content'
        → (content ≡ content') ⊎ ((content ≢ content') × (sha content ≡ sha content'))

abbrev pub EveryRunIsSafe : Type 0
EveryRunIsSafe = (sha : List ℕ → Digest) (world : World) → Moves sha (start sha) world → Safe sha world

abbrev pub EveryRunStaysSafe : Type 0
EveryRunStaysSafe =
    (sha : List ℕ → Digest) (world later : World)
    → Moves sha (start sha) world
    → Moves sha world later
    → SafeSince sha world later
