-- What is counted of a schedule: the Commits that count, and the events that were refused. The rules are this project's
-- own.
use Rattle.std.specs.Prelude.{ℕ, ◌+◌, Bool, true, false, if◌then◌else◌, List, [], ◌∷◌, Result, Ok, Err, is_some}
use Rattle.std.specs.List.{list_any}
use Rattle.names.specs.Contents.{content_digest}
use Rattle.protocol.specs.Farm.{farm_limits}
use Rattle.protocol.specs.Ledger.{Lease}
use Rattle.protocol.specs.Replay.{Farm, opening, step}
use Rattle.events.specs.declared.event.Event.{Event}
use Rattle.events.specs.declared.event.Event.TheVariants.{RestartCoordinator}
use Rattle.events.specs.declared.answer.CoordNote.TheVariants as coord
use Rattle.events.specs.declared.answer.EventNote.{EventNote}
use Rattle.events.specs.declared.answer.EventNote.TheVariants as note
use Rattle.events.specs.declared.answer.EventRefusal.{EventRefusal}
use Rattle.events.specs.declared.answer.Outcome.{Outcome}
use Rattle.farmhistory.specs.declared.counts.Counts.{Counts}
use Rattle.farmhistory.specs.History.{History}
use Rattle.farmhistory.specs.Lines.{number_on}

abbrev pub one_if : Bool → ℕ
one_if holds = if holds then 1 else 0

-- a Commit was answered as committed
abbrev pub tells_commit : EventNote → Bool
tells_commit (note.Coord (coord.Committed committed)) = true
tells_commit other = false

-- the line of one of the lease's slots has a version of its ticket
abbrev pub is_on_line : Farm → Lease → Bool
is_on_line farm lease = list_any (λ slot. is_some (number_on farm lease.ticket slot.0)) lease.slots

-- the leases that an event may take back: those that are live when the coordinator restarts
abbrev pub leases_at : Event → List Lease → List Lease
leases_at RestartCoordinator live = live
leases_at event live = []

-- what an accepted event adds, s being the farm after it. A failed save that kept a Commit left its lease live, until a
-- restart finds it committed
abbrev pub counted : List Lease → Farm → Result Outcome EventRefusal → Counts → Counts
counted leases after (Ok outcome) counts =
    record counts { committed = counts.committed + one_if (tells_commit outcome.note); kept = counts.kept + one_if (list_any (is_on_line after) leases) }
counted leases after (Err reason) counts = record counts { refused = counts.refused + 1 }

-- what is counted after these events
abbrev pub counts_from : List Event → Farm → Counts → Counts
counts_from [] farm counts = counts
counts_from (event ∷ events) farm counts =
    counts_from events (step content_digest farm_limits farm event).farm (counted (leases_at event farm.ledger.live) (step content_digest farm_limits farm event).farm (step content_digest farm_limits farm event).outcome counts)

unfoldable pub counts_of : History → Counts
counts_of history =
    counts_from history.events (opening content_digest history.setup.nodes) (record { committed = 0; kept = 0; refused = 0 })

-- the grants that ended as committed
abbrev pub commits_of : History → ℕ
commits_of history = (counts_of history).committed + (counts_of history).kept
