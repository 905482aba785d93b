-- What a line asks of a node: that of its agent, or one from outside (this project's own).
use Rattle.std.specs.Prelude.{◌≡◌, ◌≢◌, ℕ, List, Result, Ok, Err}
use Rattle.std.specs.Str.{IsUtf8}
use Rattle.farm_base.specs.declared.message.Message.{Message}
use Rattle.farm_base.specs.declared.message.Message.TheVariants as to
use Rattle.farm_base.specs.declared.message.ToNode.{ToNode}
use Rattle.names.specs.declared.number.NodeId.{NodeId}
use Rattle.farm_base.specs.Receivers.{receiver}
use Rattle.farmwire.specs.declared.refusal.LineFault.TheVariants as line
use Rattle.farmwire.specs.Sealed.{IsSealed, IsFault, Keys}
use Rattle.words.specs.Words.{words}
use Rattle.services.specs.declared.lost.Lost.{Lost}
use Rattle.services.specs.declared.unread.Unread.{Unread}
use Rattle.services.specs.declared.unread.Unread.TheVariants.{TooLong, BadMac, BadForm, NotMine, BadLine, OutOfMemory}
use Rattle.services.specs.Outside.{from_outside}
use Rattle.services.specs.Unreads.{lost_line}
use Rattle.nodelines.specs.declared.order.Call.TheVariants as call
use Rattle.nodelines.specs.declared.order.Order.{Order}
use Rattle.nodelines.specs.declared.order.Order.TheVariants as order
use Rattle.nodelines.specs.Orders.{AskedBy}

-- the message is for this node
pub record IsFor (me : NodeId) (m : Message) (o : Order) : Type 0 where
  pub message : ToNode
  pub is : m ≡ to.ToNode message
  pub here : receiver message ≡ me
  pub asked : o ≡ order.Call (call.Receive message)

-- it is for another process
abbrev pub IsForOthers : NodeId → Message → Type 0
IsForOthers me (to.ToCoord message) = Unit {0}
IsForOthers me (to.ToNode message) = receiver message ≢ me

-- what stands behind `m ` is the sealed line of a message to this node
pub record IsHeard (keys : Keys) (me : NodeId) (sealed : List ℕ) (o : Order) : Type 0 where
  pub message : Message
  pub opened : IsSealed keys sealed message
  pub mine : IsFor me message o

module _ (keys : Keys) (me : NodeId) (sealed : List ℕ) where
  -- what stands behind `m ` is no such line
  abbrev pub IsDropped : Unread → Type 0
  IsDropped TooLong = IsFault keys sealed line.TooLong
  IsDropped BadMac = IsFault keys sealed line.BadMac
  IsDropped BadForm = IsFault keys sealed line.BadForm
  IsDropped NotMine = (message : Message) × IsSealed keys sealed message × IsForOthers me message
  IsDropped BadLine = ⊥
  IsDropped OutOfMemory = Unit {0}

-- ---- a line

-- the line asks for this
pub data Orders (keys : Keys) (me : NodeId) (text : List ℕ) (o : Order) : Type 0 where
  Heard : (sealed : List ℕ) → text ≡ from_outside sealed → IsHeard keys me sealed o → Orders keys me text o
  Own : IsUtf8 text → AskedBy (words text) o → Orders keys me text o

-- the line is neither from outside nor the agent's
pub record IsBadLine (text : List ℕ) : Type 0 where
  pub inside : (sealed : List ℕ) → text ≢ from_outside sealed
  pub not_own : IsUtf8 text → (o : Order) → AskedBy (words text) o → ⊥

module _ (keys : Keys) (me : NodeId) (text : List ℕ) where
  -- the line asks for nothing, and this is why
  abbrev pub IsUnread : Unread → Type 0
  IsUnread BadLine = IsBadLine text
  IsUnread OutOfMemory = Unit {0}
  IsUnread why = (sealed : List ℕ) × (text ≡ from_outside sealed) × IsDropped keys me sealed why

-- what was handed on asks for this
abbrev pub AsksFor : Keys → NodeId → Result (List ℕ) Lost → Order → Type 0
AsksFor keys me (Ok text) o = Orders keys me text o
AsksFor keys me (Err lost) o = ⊥

-- what was handed on asks for nothing, and this is why
abbrev pub AsksNothing : Keys → NodeId → Result (List ℕ) Lost → Unread → Type 0
AsksNothing keys me (Ok text) why = IsUnread keys me text why
AsksNothing keys me (Err lost) why = why ≡ lost_line lost
