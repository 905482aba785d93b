-- What contracts see of a node.
use Rattle.std.specs.Prelude.{◌≡◌, ◌==◌, ℕ, Bool, true, false, if◌then◌else◌, List, [], Option, None, Some, is_some, All, Result, Ok, Err}
use Rattle.std.specs.declared.alloc.AllocError.{AllocError}
use Rattle.protocol.specs.World.{Node}
use Rattle.protocol.specs.Names.{Digest, Ticket}
use Rattle.protocol.specs.Machine.{Grant, GrantedSlot}
use Rattle.farm_base.specs.declared.message.Version.{Version}
use Rattle.protocol.specs.Nodes.{NodeWork, NodeAnswer, Place, HeldGrant, first, held, all_stored, nothing, received}
use Rattle.names.specs.Contents.{content_digest}
use Rattle.farm_base.specs.Receivers.{receiver}
use Rattle.protocol.specs.Farm.{farm_limits}
use Rattle.farm_base.specs.declared.message.ToNode.{ToNode}
use Rattle.farm_base.specs.declared.message.ToNode.TheVariants.{FromCoord, Fetch, Blob}
use Rattle.farm_base.specs.declared.message.FromCoord as from_coord
use Rattle.farm_base.specs.declared.message.FromCoord.TheVariants as coord
use Rattle.events.specs.declared.answer.NodeRefusal.{NodeRefusal}
use Rattle.events.specs.declared.answer.NodeRefusal.TheVariants.{OutOfMemory}
use Rattle.nodecore.specs.declared.message.NodeDone.{NodeDone}
use Rattle.nodecore.specs.declared.node_core.NodeCore.{NodeCore}
use Rattle.nodeasks.specs.Rows.{is_lost}
use Rattle.nodecontents.specs.Stored.{base_of, store_in, known_in}

-- the protocol's node
abbrev pub shown : NodeCore → Node
shown x = record {
  life = x.life;
  asks = x.asks.all.asks;
  store = store_in x.contents.by_digest;
  known = known_in x.versions;
  spent = x.spent;
}

-- the ask of this number is over, and how it ended isn't kept any more
abbrev pub forgets : NodeCore → ℕ → Bool
forgets x = is_lost x.asks.all.asks x.asks.rows.items

-- which node it is, and how many there are
abbrev pub place : NodeCore → Place
place x = record { node = x.node; nodes = x.nodes }

-- the work that was done, between these nodes
abbrev pub work_of : Node → NodeDone → NodeWork
work_of new done = record { node = new; sends = done.sends; note = done.note }

-- the call did this work. Where memory ran out it did nothing
abbrev pub Does : NodeWork → Node → Node → Result NodeDone AllocError → Type 0
Does work old new (Ok done) = work ≡ work_of new done
Does work old new (Err e) = new ≡ old

-- what the call did. Where it was refused nothing is changed
abbrev pub Answers : NodeAnswer → Node → Node → Result NodeDone NodeRefusal → Type 0
Answers answer old new (Ok done) = answer ≡ Ok (work_of new done)
Answers answer old new (Err OutOfMemory) = new ≡ old
Answers answer old new (Err e) = (answer ≡ Err e) × (new ≡ old)

-- the content under the digest
abbrev pub content_at : Node → Option Digest → Option (List ℕ)
content_at x None = None
content_at x (Some d) = x.store d

-- the content of a version
abbrev pub content_of : Node → Version → Option (List ℕ)
content_of x v = content_at x (x.known v.slot v.number)

-- the content of the base is stored. So `held` lends it, where the version is known by that digest
pub record HasBase (x : Node) (u : GrantedSlot) : Type 0 where
  pub stored : is_some (x.store u.digest) ≡ true
  pub held : x.known u.slot u.base ≡ Some u.digest → is_some (content_of x (base_of u).0) ≡ true

-- the content of each base is stored
abbrev pub HasBases : Node → List GrantedSlot → Type 0
HasBases x slots = All (HasBase x) slots

-- the result of a message
abbrev pub message_work : Place → Node → ToNode → NodeWork
message_work at x m = received content_digest farm_limits at m x

-- what a message to a node makes this one do: nothing, where it is for another
abbrev pub hearing : Place → Node → ToNode → NodeWork
hearing at x m = if (receiver m).0 == at.node.0 then message_work at x m else nothing x

-- the slots of the lease that the coordinator grants, none where it says something else
abbrev pub slots_told : from_coord.FromCoord → List GrantedSlot
slots_told (coord.Granted g) = g.slots
slots_told (coord.Committed n l t versions) = []
slots_told (coord.Fenced n l t) = []
slots_told (coord.Denied n l a why) = []
slots_told (coord.Recall n l t) = []

-- the slots of the lease that the message grants, none where it grants no lease
abbrev pub granted_slots : ToNode → List GrantedSlot
granted_slots (FromCoord m) = slots_told m
granted_slots (Fetch m) = []
granted_slots (Blob n c) = []

-- the ticket may begin, and under this lease: the node isn't down, an ask holds the ticket, and each base is stored
pub record MayBegin (x : Node) (t : Ticket) (g : Grant) : Type 0 where
  pub up : x.spent ≡ false
  pub holds : (a : ℕ) × (h : HeldGrant) × (first (held t) x.asks 0 ≡ Some (a, h)) × (h.grant ≡ g)
  pub stored : all_stored x g.slots ≡ true
