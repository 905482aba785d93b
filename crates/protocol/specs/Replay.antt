-- The one run of a schedule: each choice made by the rules (docs/PROTOCOL.md, "The replay of a schedule").
use Rattle.std.specs.Prelude.{ℕ, ◌+◌, Bool, true, false, ◌&&◌, nat_le, if◌then◌else◌, List, [], ◌∷◌, ◌++◌, length, map, Option, Some, None, Result, Ok, Err}
use Rattle.protocol.specs.Lists.{put, nth}
use Rattle.protocol.specs.Names.{NodeId, Digest}
use Rattle.protocol.specs.Machine.{Message, Told}
use Rattle.farm_base.specs.declared.message.Message.TheVariants as to
pub use Rattle.farm_base.specs.Receivers.{told_to, receiver}
use Rattle.protocol.specs.Ledger.{Limits, Ledger, Work, begin_work, handled, withdrawn, retired, pruned, nudged, Saved, saves, reads}
use Rattle.protocol.specs.Ledger as ledger
use Rattle.protocol.specs.World.{Node, first_node}
use Rattle.protocol.specs.Nodes.{Place, NodeWork, NodeAnswer, asked, asked_tenure, begun, finished_with, aborted, forgotten, resent, restarted, may_restart, received, brought, unless_spent}
use Rattle.events.specs.declared.answer.Kept.{Kept}
use Rattle.events.specs.declared.answer.Kept.TheVariants.{Old, New}
use Rattle.events.specs.declared.answer.CoordRefusal.{CoordRefusal}
use Rattle.events.specs.declared.answer.CoordRefusal.TheVariants as coord
use Rattle.events.specs.declared.answer.NodeRefusal.TheVariants as node
use Rattle.events.specs.declared.answer.EventNote.{EventNote}
use Rattle.events.specs.declared.answer.EventNote.TheVariants as note
use Rattle.events.specs.declared.answer.EventRefusal.{EventRefusal}
use Rattle.events.specs.declared.answer.EventRefusal.TheVariants as refusal
use Rattle.events.specs.declared.answer.Outcome.{Outcome}
pub use Rattle.events.specs.declared.event.Event.{Event}
pub use Rattle.events.specs.declared.event.Event.TheVariants.{Ask, Tenure, Deliver, Begin, Finish, Abort, Resend, Nudge, Withdraw, Prune, Retire, RestartNode, RestartCoordinator, Forge, Forget, FailSave}

-- a farm between two events
pub record Farm : Type 0 where
  -- how many nodes there are
  pub size : ℕ
  pub ledger : Ledger
  -- what the record holds
  pub saved : Saved
  -- a save failed, and the coordinator has not restarted since
  pub down : Bool
  -- the next save fails, and leaves this
  pub armed : Option Kept
  -- every message ever sent, in order of sending
  pub pool : List Message
  pub nodes : ℕ → Node

-- a farm where nothing happened
abbrev pub opening : (List ℕ → Digest) → ℕ → Farm
opening sha size = record {
  size = size;
  ledger = ledger.opening;
  saved = saves ledger.opening;
  down = false;
  armed = None;
  pool = [];
  nodes = λ who. first_node sha;
}

-- an event's farm, and its outcome
pub record Turn : Type 0 where
  pub farm : Farm
  pub outcome : Result Outcome EventRefusal

-- a refused event leaves this farm
abbrev pub refused : EventRefusal → Farm → Turn
refused reason farm = record { farm = farm; outcome = Err reason }

-- the number of the first message that the event sends, or 0
abbrev pub first_sent : Farm → List Message → ℕ
first_sent farm [] = 0
first_sent farm (message ∷ messages) = length farm.pool + 1

-- an accepted event leaves the farm `after`, and sends these messages
abbrev pub done : EventNote → List Message → Farm → Farm → Turn
done noted sends farm after =
    record { farm = after; outcome = Ok (record { note = noted; first = first_sent farm sends; sent = length sends }) }

-- the coordinator

-- the work of the coordinator is done, `saved` being in its record
abbrev pub after_work : Saved → Work → Farm → Turn
after_work saved work farm =
    done (note.Coord work.note) (map Told work.sends) farm
    (record farm { ledger = work.ledger; saved = saved; pool = farm.pool ++ map Told work.sends })

-- the record is saved where it changed, and then all is sent; or the save fails, and nothing is sent
abbrev pub settled : Bool → Option Kept → Work → Farm → Turn
settled false armed work farm = after_work farm.saved work farm
settled true None work farm = after_work (saves work.ledger) work farm
settled true (Some Old) work farm =
    record { farm = record farm { down = true; armed = None }; outcome = Err (refusal.Coord coord.SaveFault) }
settled true (Some New) work farm = record {
  farm = record farm { saved = saves work.ledger; down = true; armed = None };
  outcome = Err (refusal.Coord coord.SaveFault);
}

-- a call of the coordinator is refused, or its work is settled
abbrev pub settles : Result Work CoordRefusal → Farm → Turn
settles (Err reason) farm = refused (refusal.Coord reason) farm
settles (Ok work) farm = settled work.changed farm.armed work farm

-- nothing is done while the coordinator is down
abbrev pub coordinated : Bool → Result Work CoordRefusal → Farm → Turn
coordinated true result farm = refused (refusal.Coord coord.Down) farm
coordinated false result farm = settles result farm

-- the nodes

-- the farm has a node with this number: they are counted from 1
abbrev pub is_node : Farm → NodeId → Bool
is_node farm who = nat_le 1 who.0 && nat_le who.0 farm.size

-- the place of the node in the farm
abbrev pub at : Farm → NodeId → Place
at farm who = record { node = who; nodes = farm.size }

-- the node does this work
abbrev pub moved : NodeId → NodeWork → Farm → Turn
moved who work farm =
    done (note.Node work.note) work.sends farm
    (record farm { nodes = put who.0 work.node farm.nodes; pool = farm.pool ++ work.sends })

-- a call of the node is refused, or its work is done
abbrev pub answered : NodeId → NodeAnswer → Farm → Turn
answered who (Err reason) farm = refused (refusal.Node reason) farm
answered who (Ok work) farm = moved who work farm

-- what a node answers, where the farm has it
abbrev pub at_node : Bool → NodeId → NodeAnswer → Farm → Turn
at_node true who answer farm = answered who answer farm
at_node false who answer farm = refused refusal.NoSuchNode farm

-- what a call of the node gives in the farm
abbrev pub node_does : NodeId → (Place → Node → NodeAnswer) → Farm → Turn
node_does who call farm = at_node (is_node farm who) who (call (at farm who) (farm.nodes who.0)) farm

-- a node that can't restart is down for good
abbrev pub restarts : Limits → NodeId → Farm → Turn
restarts limits who farm =
    if may_restart limits (farm.nodes who.0)
    then moved who (restarted (at farm who) (farm.nodes who.0)) farm
    else refused (refusal.Node node.LivesSpent)
    (record farm { nodes = put who.0 (record (farm.nodes who.0) { spent = true }) farm.nodes })

-- deliveries

module _ (sha : List ℕ → Digest) (limits : Limits) where
  -- the message arrives, at the coordinator or at its node
  abbrev pub delivered : Option Message → Farm → Turn
  delivered None farm = refused refusal.NoSuchMessage farm
  delivered (Some (to.ToCoord saying)) farm =
      coordinated farm.down (Ok (handled limits saying (begin_work farm.ledger))) farm
  delivered (Some (to.ToNode mail)) farm =
      node_does (receiver mail) (λ here state. unless_spent state (received sha limits here mail state)) farm

  -- what each event does. A restart of the coordinator reads the record and nothing else
  unfoldable pub step : Farm → Event → Turn
  step farm (Ask who wants) = node_does who (λ here state. asked limits here wants state) farm
  step farm (Tenure who folder) = node_does who (λ here state. asked_tenure limits here folder state) farm
  step farm (Deliver number) = delivered (nth farm.pool number) farm
  step farm (Begin who ticket) = node_does who (λ here state. begun ticket state) farm
  step farm (Finish who ticket lefts) = node_does who (λ here state. finished_with sha here ticket lefts state) farm
  step farm (Abort who ticket) = node_does who (λ here state. aborted here ticket state) farm
  step farm (Resend who) = node_does who (λ here state. resent limits here state) farm
  step farm Nudge = coordinated farm.down (Ok (nudged limits (begin_work farm.ledger))) farm
  step farm (Withdraw ticket) = coordinated farm.down (withdrawn limits ticket (begin_work farm.ledger)) farm
  step farm (Prune slot) = coordinated farm.down (pruned limits slot (begin_work farm.ledger)) farm
  step farm (Retire who) =
      if is_node farm who
      then coordinated farm.down (retired limits who (begin_work farm.ledger)) farm
      else refused refusal.NoSuchNode farm
  step farm (RestartNode who) =
      if is_node farm who
      then restarts limits who farm
      else refused refusal.NoSuchNode farm
  step farm RestartCoordinator = done note.Restarted [] farm (record farm { ledger = reads farm.saved; down = false })
  step farm (Forge who content) = node_does who (λ here state. unless_spent state (brought sha content state)) farm
  step farm (Forget who digest) = node_does who (λ here state. forgotten limits digest state) farm
  step farm (FailSave kept) = done note.Armed [] farm (record farm { armed = Some kept })

  -- the farm after a whole schedule
  abbrev pub run : List Event → Farm → Farm
  run [] farm = farm
  run (event ∷ events) farm = run events (step farm event).farm

  -- the farm of this size that a schedule leads to
  abbrev pub scheduled : ℕ → List Event → Farm
  scheduled size events = run events (opening sha size)
