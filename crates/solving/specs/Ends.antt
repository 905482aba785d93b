-- What the schedule of a run says when it is replayed (this project's own).
use Rattle.std.specs.Prelude.{◌≡◌, ℕ, List}
use Rattle.events.specs.declared.event.Event.{Event}
use Rattle.schedule.specs.declared.setup.Setup.{Setup}
use Rattle.executions.specs.Counts.{counts_of}
use Rattle.executions.specs.Replays.{replayed}

-- no event is refused
abbrev pub RefusesNone : Setup → List Event → Type 0
RefusesNone setup events = (counts_of (replayed setup events)).refused ≡ 0

-- how many events are answered `committed`
abbrev pub committed_of : Setup → List Event → ℕ
committed_of setup events = (counts_of (replayed setup events)).committed
