-- What a line asks of a coordinator (this project's own).
use Rattle.std.specs.Prelude.{◌≡◌, ◌≢◌, ℕ, ◌<◌, ◌^◌, List, ◌++◌, codes, decimal, Result, Ok, Err}
use Rattle.std.specs.Str.{IsUtf8}
use Rattle.names.specs.declared.limits.TheConstants.{NODES}
use Rattle.farm_base.specs.declared.message.Message.TheVariants as to
use Rattle.farm_base.specs.declared.message.ToNode.{ToNode}
use Rattle.names.specs.declared.number.NodeId.{NodeId}
use Rattle.names.specs.declared.number.Ticket.{Ticket}
use Rattle.names.specs.Names.{slot_text, IsSlot}
use Rattle.names.specs.Slots.{SlotParts}
use Rattle.farmwire.specs.declared.refusal.LineFault.TheVariants as line
use Rattle.farmwire.specs.Sealed.{IsSealed, IsFault, Keys}
use Rattle.protocol.specs.Lawful.{IsNumber, IsSaid}
use Rattle.protocol.specs.Processes as process
use Rattle.coordinatorlines.specs.declared.call.Call.{Call}
use Rattle.coordinatorlines.specs.declared.call.Call.TheVariants.{Handle, Withdraw, Retire, Prune, Nudge}
use Rattle.coordinatorlines.specs.declared.call.Order.{Order}
use Rattle.coordinatorlines.specs.declared.call.Order.TheVariants as order
use Rattle.coordinatorlines.specs.declared.call.Question.{Question}
use Rattle.coordinatorlines.specs.declared.call.Question.TheVariants.{Line, Status, Needed}
use Rattle.services.specs.declared.lost.Lost.{Lost}
use Rattle.services.specs.declared.unread.Unread.{Unread}
use Rattle.services.specs.declared.unread.Unread.TheVariants.{TooLong, BadMac, BadForm, NotMine, BadLine, OutOfMemory}
use Rattle.services.specs.Outside.{from_outside}
use Rattle.services.specs.Unreads.{lost_line}

-- the call, as the protocol has it
abbrev pub called : Call → process.Call
called (Handle message) = process.Handle message
called (Withdraw ticket) = process.Withdraw ticket
called (Retire node) = process.Retire node
called (Prune slot) = process.Prune slot
called Nudge = process.Nudge

-- a coordinator can carry it out: its numbers are in their ranges
abbrev pub MayBeMade : Call → Type 0
MayBeMade (Handle message) = IsSaid NODES message
MayBeMade (Withdraw ticket) = Unit {0}
MayBeMade (Retire node) = IsNumber NODES node
MayBeMade (Prune slot) = Unit {0}
MayBeMade Nudge = Unit {0}

-- ---- the operator's lines

abbrev pub withdraw_line : Ticket → List ℕ
withdraw_line ticket = codes "withdraw " ++ decimal ticket.0

abbrev pub retire_line : NodeId → List ℕ
retire_line node = codes "retire " ++ decimal node.0

abbrev pub prune_line : SlotParts → List ℕ
prune_line slot = codes "prune " ++ slot_text slot

abbrev pub line_line : SlotParts → List ℕ
line_line slot = codes "line " ++ slot_text slot

-- the line of a call; what a node says has none
abbrev pub IsOwn : List ℕ → Call → Type 0
IsOwn text (Handle message) = ⊥
IsOwn text (Withdraw ticket) = (text ≡ withdraw_line ticket) × (ticket.0 < 2 ^ 64)
IsOwn text (Retire node) = (text ≡ retire_line node) × IsNumber NODES node
IsOwn text (Prune slot) = (text ≡ prune_line slot) × IsSlot slot
IsOwn text Nudge = text ≡ codes "nudge"

-- the line of a question
abbrev pub IsQuestion : List ℕ → Question → Type 0
IsQuestion text (Line slot) = (text ≡ line_line slot) × IsSlot slot
IsQuestion text Status = text ≡ codes "status"
IsQuestion text Needed = text ≡ codes "needed"

-- ---- what came from outside

-- what stands behind `m ` is the sealed line of what a node says
abbrev pub IsHeard : Keys → List ℕ → Call → Type 0
IsHeard keys sealed (Handle message) = IsSealed keys sealed (to.ToCoord message)
IsHeard keys sealed (Withdraw ticket) = ⊥
IsHeard keys sealed (Retire node) = ⊥
IsHeard keys sealed (Prune slot) = ⊥
IsHeard keys sealed Nudge = ⊥

-- what stands behind `m ` is no such line
abbrev pub IsDropped : Keys → List ℕ → Unread → Type 0
IsDropped keys sealed TooLong = IsFault keys sealed line.TooLong
IsDropped keys sealed BadMac = IsFault keys sealed line.BadMac
IsDropped keys sealed BadForm = IsFault keys sealed line.BadForm
IsDropped keys sealed NotMine = (message : ToNode) × IsSealed keys sealed (to.ToNode message)
IsDropped keys sealed BadLine = ⊥
IsDropped keys sealed OutOfMemory = Unit {0}

-- ---- a line

-- the line asks for the call
pub data Asks (keys : Keys) (text : List ℕ) (call : Call) : Type 0 where
  Heard : (sealed : List ℕ) → text ≡ from_outside sealed → IsHeard keys sealed call → Asks keys text call
  Own : IsUtf8 text → IsOwn text call → Asks keys text call

-- the operator's line says this
abbrev pub IsOperators : List ℕ → Order → Type 0
IsOperators text (order.Call call) = IsOwn text call
IsOperators text (order.Show question) = IsQuestion text question

-- the line asks for this
abbrev pub Orders : Keys → List ℕ → Order → Type 0
Orders keys text (order.Call call) = Asks keys text call
Orders keys text (order.Show question) = IsUtf8 text × IsQuestion text question

-- the line is neither from outside nor the operator's
pub record IsBadLine (text : List ℕ) : Type 0 where
  pub inside : (sealed : List ℕ) → text ≢ from_outside sealed
  pub not_own : IsUtf8 text → (asked : Order) → IsOperators text asked → ⊥

-- the line asks for nothing, and this is why
abbrev pub IsUnread : Keys → List ℕ → Unread → Type 0
IsUnread keys text BadLine = IsBadLine text
IsUnread keys text OutOfMemory = Unit {0}
IsUnread keys text why = (sealed : List ℕ) × (text ≡ from_outside sealed) × IsDropped keys sealed why

-- what was handed on asks for this
abbrev pub AsksFor : Keys → Result (List ℕ) Lost → Order → Type 0
AsksFor keys (Ok text) asked = Orders keys text asked
AsksFor keys (Err why) asked = ⊥

-- what was handed on asks for nothing, and this is why
abbrev pub AsksNothing : Keys → Result (List ℕ) Lost → Unread → Type 0
AsksNothing keys (Ok text) why = IsUnread keys text why
AsksNothing keys (Err lost) why = why ≡ lost_line lost
