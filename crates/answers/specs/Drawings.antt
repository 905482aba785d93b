-- What the program draws for a schedule (this project's own).
use Rattle.std.specs.Prelude.{ℕ, List}
use Rattle.events.specs.declared.event.Event.{Event}
use Rattle.schedule.specs.declared.setup.Setup.{Setup}
use Rattle.schedule.specs.Schedules as schedule
use Rattle.draw.specs.declared.range.Range.{Range}
use Rattle.draw.specs.Drawings.{IsPicture}

-- the bytes spell a schedule, and this is the picture of a range of its events
abbrev pub IsDrawn : Range → List ℕ → List ℕ → Type 0
IsDrawn range bytes text = (setup : Setup) × (events : List Event) × schedule.IsSchedule bytes setup events
    × IsPicture setup events range text
