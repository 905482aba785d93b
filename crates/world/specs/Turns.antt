-- The result of an event of the world.
use Rattle.std.specs.Prelude.{◌≡◌, ℕ, zero, suc, ◌+◌, ◌<◌, ◌≤◌, true, false, if◌then◌else◌, [], length, Result, Ok, Err}
use Rattle.protocol.specs.Farm.{farm_limits}
use Rattle.protocol.specs.Names.{NodeId}
use Rattle.protocol.specs.Ledger.{handled, retired, begin_work, reads}
use Rattle.protocol.specs.Replay.{Farm, Turn, is_node, at, restarts, coordinated, refused, done}
use Rattle.events.specs.declared.answer.CoordRefusal.{CoordRefusal}
use Rattle.events.specs.declared.answer.CoordRefusal.TheVariants as coord
use Rattle.farm_base.specs.declared.message.Message.{Message}
use Rattle.farm_base.specs.declared.message.Message.TheVariants.{ToCoord, ToNode}
use Rattle.nodecore.specs.Shown.{message_work}
use Rattle.events.specs.declared.answer.NodeRefusal.{NodeRefusal}
use Rattle.events.specs.declared.answer.NodeRefusal.TheVariants as node
use Rattle.events.specs.declared.answer.EventNote.TheVariants as note
use Rattle.events.specs.declared.answer.EventRefusal.{EventRefusal}
use Rattle.events.specs.declared.answer.EventRefusal.TheVariants as refusal
use Rattle.farm_base.specs.Receivers.{receiver}
use Rattle.events.specs.declared.answer.Outcome.{Outcome}

-- the number of the first message that is sent after `before` others, 0 if none is sent
abbrev pub first_number : ℕ → ℕ → ℕ
first_number before zero = 0
first_number before (suc count) = before + 1

-- this turn is the event's result. Where memory ran out nothing is changed
abbrev pub Came : Turn → Farm → Farm → Result Outcome EventRefusal → Type 0
Came turn old new (Ok outcome) = turn ≡ record { farm = new; outcome = Ok outcome }
Came turn old new (Err refusal.OutOfMemory) = new ≡ old
Came turn old new (Err e) = turn ≡ record { farm = new; outcome = Err e }

-- maps a node's refusal to the event's
abbrev pub from_node : NodeRefusal → EventRefusal
from_node node.OutOfMemory = refusal.OutOfMemory
from_node e = refusal.Node e

-- there is room for what the message makes its receiver send; a room that is no machine's number isn't looked at
abbrev pub FitsIn : Farm → Message → ℕ → Type 0
FitsIn s (ToCoord y) room = length (handled farm_limits y (begin_work s.ledger)).sends ≤ room
FitsIn s (ToNode m) room = is_node s (receiver m) ≡ true → room < 0xffff_ffff_ffff_ffff
    → length (message_work (at s (receiver m)) (s.nodes (receiver m).0) m).sends ≤ room

-- maps the coordinator's refusal to the event's
abbrev pub from_coordinator : CoordRefusal → EventRefusal
from_coordinator coord.OutOfMemory = refusal.OutOfMemory
from_coordinator e = refusal.Coord e

-- a node of this number is retired, if it is there
abbrev pub retiring : NodeId → Farm → Turn
retiring n s =
    if is_node s n then coordinated s.down (retired farm_limits n (begin_work s.ledger)) s else refused refusal.NoSuchNode s

-- a node of this number restarts, if it is there
abbrev pub restarting : NodeId → Farm → Turn
restarting n s = if is_node s n then restarts farm_limits n s else refused refusal.NoSuchNode s

-- the coordinator starts again from its record
abbrev pub restarting_coordinator : Farm → Turn
restarting_coordinator s = done note.Restarted [] s (record s { ledger = reads s.saved; down = false })
