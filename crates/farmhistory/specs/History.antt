-- What a board stores, the farm that it leads to, and what a call adds to it. The rules are this project's own.
use Rattle.std.specs.Prelude.{⊤, ◌≡◌, ℕ, zero, suc, ◌<◌, ◌≤◌, Bool, true, false, ◌==◌, ◌&&◌, ◌||◌, not, length, filter, List, [], ◌∷◌, ◌++◌, Option, Some, None, Result, Ok, Err}
use Rattle.std.specs.List.{list_any}
use Rattle.names.specs.Contents.{content_digest}
use Rattle.names.specs.declared.limits.TheConstants.{EVENTS}
use Rattle.protocol.specs.Farm.{farm_limits}
use Rattle.protocol.specs.Names.{Ask}
use Rattle.protocol.specs.Replay.{Farm, opening, step, run}
use Rattle.events.specs.declared.event.Event.{Event}
use Rattle.events.specs.declared.event.Event.TheVariants.{Tenure, Deliver}
use Rattle.events.specs.declared.event.Event.TheVariants as event
use Rattle.events.specs.declared.answer.EventNote.{EventNote}
use Rattle.events.specs.declared.answer.EventRefusal.{EventRefusal}
use Rattle.events.specs.declared.answer.EventNote.TheVariants as note
use Rattle.events.specs.declared.answer.NodeNote.{NodeNote}
use Rattle.events.specs.declared.answer.NodeNote.TheVariants as node_note
use Rattle.events.specs.declared.answer.Outcome.{Outcome}
use Rattle.schedule.specs.declared.setup.Setup.{Setup}
use Rattle.world.specs.Setups.{IsSetup}
use Rattle.farmhistory.specs.declared.refusal.BoardRefusal.{BoardRefusal}
use Rattle.farmhistory.specs.declared.refusal.BoardRefusal.TheVariants as board

-- how the farm began, its events since, and the numbers of the messages that were skipped
pub record History : Type 0 where
  pub setup : Setup
  pub events : List Event
  pub skipped : List ℕ

-- the farm that the stored schedule leads to
unfoldable pub farm_of : History → Farm
farm_of history = run content_digest farm_limits history.events (opening content_digest history.setup.nodes)

-- the outcome of one event more
unfoldable pub outcome_of : History → Event → Result Outcome EventRefusal
outcome_of history next = (step content_digest farm_limits (farm_of history) next).outcome

abbrev pub and_then : History → Event → History
and_then history next = record history { events = history.events ++ next ∷ [] }

-- one event: it is appended where it was accepted, and where the world refused it; it isn't where the schedule was
-- full, or memory ran out
abbrev pub Took : History → Event → History → Result Outcome BoardRefusal → Type 0
Took old next new (Ok outcome) = (length old.events < EVENTS) × (outcome_of old next ≡ Ok outcome) × (new ≡ and_then old next)
Took old next new (Err (board.Event reason)) = (length old.events < EVENTS) × (outcome_of old next ≡ Err reason)
    × (new ≡ and_then old next)
Took old next new (Err board.HistoryFull) = (EVENTS ≤ length old.events) × (new ≡ old)
Took old next new (Err board.TokenOut) = ⊥
Took old next new (Err board.OutOfMemory) = new ≡ old

-- the board's answer to an event with this outcome
abbrev pub answer_of : Result Outcome EventRefusal → Result Outcome BoardRefusal
answer_of (Ok outcome) = Ok outcome
answer_of (Err reason) = Err (board.Event reason)

-- the event was accepted, and did this
abbrev pub Did : History → Event → History → EventNote → Type 0
Did old next new note = (outcome : Outcome) × (outcome.note ≡ note) × Took old next new (Ok outcome)

-- the number of the ask that the note tells of
abbrev pub ask_told : NodeNote → Option Ask
ask_told (node_note.Asked ask) = Some ask
ask_told other = None

abbrev pub ask_in : EventNote → Option Ask
ask_in (note.Node told) = ask_told told
ask_in told = None

-- the event is a node's ask, for a lease or a tenure
abbrev pub IsAskEvent : Event → Type 0
IsAskEvent (event.Ask node wants) = ⊤
IsAskEvent (Tenure node folder) = ⊤
IsAskEvent other = ⊥

-- ---- deliveries

-- the event delivers this message
abbrev pub delivers : ℕ → Event → Bool
delivers sought (Deliver number) = number == sought
delivers sought other = false

-- the message was skipped, or a Deliver of the schedule names it
abbrev pub is_passed : History → ℕ → Bool
is_passed history number = list_any (λ skipped. skipped == number) history.skipped || list_any (delivers number) history.events

-- the least number of a message that was neither skipped nor named by a Deliver
pub record IsNext (history : History) (number : ℕ) : Type 0 where
  pub least : 1 ≤ number
  pub sent : number ≤ length (farm_of history).pool
  pub here : is_passed history number ≡ false
  pub others : (other : ℕ) → 1 ≤ other → other < number → is_passed history other ≡ true

-- no message is left
abbrev pub NoneLeft : History → Type 0
NoneLeft history = (number : ℕ) → 1 ≤ number → number ≤ length (farm_of history).pool → is_passed history number ≡ true

-- the next message is delivered, where one is left; else nothing is appended
abbrev pub DeliversNext : History → History → Result (Option Outcome) BoardRefusal → Type 0
DeliversNext old new (Ok None) = NoneLeft old × (new ≡ old)
DeliversNext old new (Ok (Some outcome)) = (number : ℕ) × IsNext old number × Took old (Deliver number) new (Ok outcome)
DeliversNext old new (Err reason) = (number : ℕ) × IsNext old number × Took old (Deliver number) new (Err reason)
