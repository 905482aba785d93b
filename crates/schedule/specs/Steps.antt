-- How the lines of events are read, one after the other.
use Rattle.std.specs.Prelude.{◌≡◌, ◌≢◌, ℕ, ◌+◌, ◌<◌, ◌≤◌, List, [], ◌∷◌, ◌++◌, length}
use Rattle.events.specs.declared.event.Event.{Event}
use Rattle.schedule.specs.declared.refusal.ScheduleRefusal.{ScheduleRefusal}
use Rattle.schedule.specs.declared.refusal.ScheduleRefusal.TheVariants.{BadLine, TooManyEvents, OutOfMemory, TooLarge}
use Rattle.schedule.specs.Lines.{IsSpelled}
use Rattle.schedule.specs.Schedules.{EVENTS, HasLine, IsNoEventBehind, IsTooManyBehind}

-- the events before a line and after it: a line that isn't empty adds its own
pub record AddsEvent (old : List Event) (line : List ℕ) (new : List Event) : Type 0 where
  pub event : Event
  pub room : length old < EVENTS
  pub spelled : IsSpelled line event
  pub added : new ≡ old ++ event ∷ []

pub record AddsLine (old : List Event) (line : List ℕ) (new : List Event) : Type 0 where
  pub empty : line ≡ [] → new ≡ old
  pub filled : line ≢ [] → AddsEvent old line new

-- why lines of events are refused; the first of them has the number 2
abbrev pub AreRefused : List (List ℕ) → ScheduleRefusal → Type 0
AreRefused ls TooLarge = ⊥
AreRefused ls (BadLine number) = HasLine ls (λ front line. (number ≡ length front + 2) × IsNoEventBehind front line)
AreRefused ls TooManyEvents = HasLine ls IsTooManyBehind
AreRefused ls OutOfMemory = Unit {0}

-- why the line with this number is refused, after count events
abbrev pub IsLineRefused : List ℕ → ℕ → ℕ → ScheduleRefusal → Type 0
IsLineRefused line number count TooLarge = ⊥
IsLineRefused line number count (BadLine n) = (n ≡ number) × (line ≢ []) × (count < EVENTS)
    × ((e : Event) → IsSpelled line e → ⊥)
IsLineRefused line number count TooManyEvents = (line ≢ []) × (EVENTS ≤ count)
IsLineRefused line number count OutOfMemory = Unit {0}
