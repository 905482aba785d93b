-- What the picture shows of an event.
use Rattle.std.specs.Prelude.{ℕ, Option, Some, None, Result, Ok, Err}
use Rattle.farm_base.specs.Receivers.{receiver}
use Rattle.farm_base.specs.declared.lease.Lease.{Lease}
use Rattle.farm_base.specs.declared.message.Message.{Message}
use Rattle.farm_base.specs.declared.message.Message.TheVariants as to
use Rattle.events.specs.declared.event.Event.{Event}
use Rattle.events.specs.declared.event.Event.TheVariants as event
use Rattle.events.specs.declared.answer.Outcome.{Outcome}
use Rattle.events.specs.declared.answer.EventRefusal.{EventRefusal}
use Rattle.events.specs.declared.answer.EventRefusal.TheVariants as refusal
use Rattle.events.specs.declared.answer.CoordRefusal.TheVariants as coord_refusal
use Rattle.events.specs.declared.answer.EventNote.{EventNote}
use Rattle.events.specs.declared.answer.EventNote.TheVariants as note
use Rattle.events.specs.declared.answer.CoordNote.{CoordNote}
use Rattle.events.specs.declared.answer.CoordNote.TheVariants as coord
use Rattle.events.specs.declared.answer.NodeNote.{NodeNote}
use Rattle.events.specs.declared.answer.NodeNote.TheVariants as node
use Rattle.draw.specs.declared.frame.Held.{Held}
use Rattle.draw.specs.declared.frame.Done.{Done}
use Rattle.draw.specs.declared.frame.Done.TheVariants as done

-- whom a message is for: the coordinator is 0
abbrev pub addressee : Option Message → ℕ
addressee None = 0
addressee (Some (to.ToCoord y)) = 0
addressee (Some (to.ToNode y)) = (receiver y).0

-- what is shown of an outcome
abbrev pub coord_done : CoordNote → Done
coord_done (coord.Committed t) = done.Committed t.0
coord_done (coord.Released t) = done.Released t.0
coord_done (coord.Withdrawn t) = done.Withdrawn t.0
coord_done _ = done.Other

abbrev pub node_done : NodeNote → Done
node_done (node.Begun t) = done.Begun t.0
node_done (node.Finished t) = done.Over t.0
node_done (node.Aborted t) = done.Over t.0
node_done (node.Life l) = done.Started
node_done _ = done.Other

abbrev pub note_done : EventNote → Done
note_done (note.Coord n) = coord_done n
note_done (note.Node n) = node_done n
note_done note.Restarted = done.Started
note_done note.Armed = done.Armed

abbrev pub done_of : Result Outcome EventRefusal → Done
done_of (Ok o) = note_done o.note
done_of (Err (refusal.Coord coord_refusal.SaveFault)) = done.SaveFailed
done_of (Err _) = done.Refused

-- the message that an event takes: what is refused takes none
abbrev pub taken_of : Event → Result Outcome EventRefusal → Option ℕ
taken_of (event.Deliver number) (Ok o) = Some number
taken_of _ _ = None

-- what is shown of a lease
abbrev pub held_of : Lease → Held
held_of lease = record { ticket = lease.ticket.0; node = lease.node.0 }
