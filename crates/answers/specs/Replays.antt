-- What the program prints for a schedule (this project's own).
use Rattle.std.specs.Prelude.{◌≡◌, ⊤, ℕ, ◌+◌, List, [], ◌∷◌, ◌++◌, Result, Ok, Err}
use Rattle.names.specs.Contents.{content_digest}
use Rattle.protocol.specs.Farm.{farm_limits}
use Rattle.schedule.specs.Printing.{outcome_text}
use Rattle.protocol.specs.World.{start}
use Rattle.protocol.specs.Chronicle.{Chronicle}
use Rattle.protocol.specs.Replay.{Farm, step, run, opening}
use Rattle.events.specs.declared.answer.EventRefusal.{EventRefusal}
use Rattle.events.specs.declared.answer.Outcome.{Outcome}
use Rattle.events.specs.declared.event.Event.{Event}
use Rattle.schedule.specs.declared.setup.Setup.{Setup}
use Rattle.schedule.specs.Schedules as schedule
use Rattle.world.specs.Printing.{ArePrinted}
use Rattle.world.specs.Replays.{KeepsHeadline}
use Rattle.answers.specs.declared.answered.RefusedEvent.{RefusedEvent}
use Rattle.answers.specs.declared.failure.Failure.{Failure}
use Rattle.answers.specs.declared.failure.Failure.TheVariants as failure

-- the lines of events in the farm, the first with this number
abbrev pub events_text : ℕ → List Event → Farm → List ℕ
events_text number [] s = []
events_text number (e ∷ es) s =
    outcome_text number (step content_digest farm_limits s e).outcome ++ events_text (number + 1) es (step content_digest farm_limits s e).farm

-- an event with this outcome, where the farm refuses it
abbrev pub refused_by : ℕ → Result Outcome EventRefusal → List RefusedEvent
refused_by number (Ok outcome) = []
refused_by number (Err refusal) = record { number = number; refusal = refusal } ∷ []

-- the events that the farm refuses, the first event with this number
abbrev pub refused_events : ℕ → List Event → Farm → List RefusedEvent
refused_events number [] s = []
refused_events number (e ∷ es) s =
    refused_by number (step content_digest farm_limits s e).outcome ++ refused_events (number + 1) es (step content_digest farm_limits s e).farm

-- what is printed for events in a farm: their lines, and the lines of versions of the farm after them
pub record IsPrinted (s : Farm) (events : List Event) (text : List ℕ) : Type 0 where
  pub lines : List ℕ
  pub printed : ArePrinted (run content_digest farm_limits events s).ledger.line lines
  pub text_is : text ≡ events_text 1 events s ++ lines

-- what is printed for a schedule: that for its events in a farm where nothing happened
abbrev pub IsReplayOf : Setup → List Event → List ℕ → Type 0
IsReplayOf setup events text = IsPrinted (opening content_digest setup.nodes) events text

-- what the schedule means: its chronicle, and the headline of this project after each part of it
pub record HasHeadline (setup : Setup) (events : List Event) : Type 0 where
  pub chronicle : Chronicle content_digest farm_limits events (opening content_digest setup.nodes) (start content_digest)
  pub headline : KeepsHeadline setup.nodes events

-- the bytes spell a schedule, and this is what is printed for it
abbrev pub IsReplayed : List ℕ → List ℕ → Type 0
IsReplayed bytes text = (setup : Setup) × (events : List Event) × schedule.IsSchedule bytes setup events
    × IsReplayOf setup events text

-- the bytes spell a schedule, and these are its events that are refused
abbrev pub AreRefusedIn : List ℕ → List RefusedEvent → Type 0
AreRefusedIn bytes refused = (setup : Setup) × (events : List Event) × schedule.IsSchedule bytes setup events
    × (refused ≡ refused_events 1 events (opening content_digest setup.nodes))

-- the headline holds of the schedule that the bytes spell
abbrev pub TellsHeadline : List ℕ → Type 0
TellsHeadline bytes = (setup : Setup) (events : List Event) → schedule.IsSchedule bytes setup events
    → HasHeadline setup events

-- why the bytes don't spell a schedule: their first fault
abbrev pub IsUnread : List ℕ → Failure → Type 0
IsUnread bytes (failure.Read e) = ⊥
IsUnread bytes (failure.Load e) = ⊥
IsUnread bytes (failure.Schedule e) = schedule.IsRefused bytes e
IsUnread bytes (failure.Record e) = ⊥
IsUnread bytes (failure.Entry place e) = ⊥
IsUnread bytes (failure.BadHead place) = ⊥
IsUnread bytes failure.Memory = ⊤
