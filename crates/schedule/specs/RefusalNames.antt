-- The name of each refusal of an event.
use Rattle.std.specs.Prelude.{ℕ, List, codes}
use Rattle.events.specs.declared.answer.CoordRefusal.{CoordRefusal}
use Rattle.events.specs.declared.answer.CoordRefusal.TheVariants as coord
use Rattle.events.specs.declared.answer.NodeRefusal.{NodeRefusal}
use Rattle.events.specs.declared.answer.NodeRefusal.TheVariants as node
use Rattle.events.specs.declared.answer.EventRefusal.{EventRefusal}
use Rattle.events.specs.declared.answer.EventRefusal.TheVariants as event

-- of the coordinator
abbrev pub coord_refusal_text : CoordRefusal → List ℕ
coord_refusal_text coord.Down = codes "Down"
coord_refusal_text coord.SaveFault = codes "SaveFault"
coord_refusal_text coord.BadRecord = codes "BadRecord"
coord_refusal_text coord.NotLive = codes "NotLive"
coord_refusal_text coord.SlotLeased = codes "SlotLeased"
coord_refusal_text coord.NoSuchSlot = codes "NoSuchSlot"
coord_refusal_text coord.TicketsSpent = codes "TicketsSpent"
coord_refusal_text coord.OutOfMemory = codes "OutOfMemory"
coord_refusal_text coord.LoadFault = codes "LoadFault"
coord_refusal_text coord.Tenure = codes "Tenure"
coord_refusal_text coord.TenureHeld = codes "TenureHeld"
coord_refusal_text coord.NodeRetired = codes "NodeRetired"

-- of a node
abbrev pub node_refusal_text : NodeRefusal → List ℕ
node_refusal_text node.NotHomeHere = codes "NotHomeHere"
node_refusal_text node.NoSuchTicket = codes "NoSuchTicket"
node_refusal_text node.ContentsMissing = codes "ContentsMissing"
node_refusal_text node.WrongNews = codes "WrongNews"
node_refusal_text node.NotRunning = codes "NotRunning"
node_refusal_text node.LivesSpent = codes "LivesSpent"
node_refusal_text node.AsksSpent = codes "AsksSpent"
node_refusal_text node.OutOfMemory = codes "OutOfMemory"
node_refusal_text node.TenureHere = codes "TenureHere"
node_refusal_text node.TenureInUse = codes "TenureInUse"
node_refusal_text node.NoSuchContent = codes "NoSuchContent"
node_refusal_text node.Needed = codes "Needed"

-- of an event: the name of the refusal within it, if there is one
abbrev pub refusal_text : EventRefusal → List ℕ
refusal_text event.NoSuchMessage = codes "NoSuchMessage"
refusal_text event.NoSuchNode = codes "NoSuchNode"
refusal_text (event.Node refusal) = node_refusal_text refusal
refusal_text (event.Coord refusal) = coord_refusal_text refusal
refusal_text event.OutOfMemory = codes "OutOfMemory"
