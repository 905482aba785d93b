-- What the schedule of a run says when it is replayed (this project's own).
use Rattle.std.specs.Prelude.{ℕ, List, []}
use Rattle.protocol.specs.Replay.{Farm}
use Rattle.events.specs.declared.event.Event.{Event}
use Rattle.schedule.specs.declared.setup.Setup.{Setup}
use Rattle.farmhistory.specs.History.{History, farm_of}
use Rattle.farmhistory.specs.Counts.{commits_of}

-- a farm of this setup, after these events
abbrev pub replayed : Setup → List Event → History
replayed setup events = record { setup = setup; events = events; skipped = [] }

-- the farm that they lead to
abbrev pub farm_after : Setup → List Event → Farm
farm_after setup events = farm_of (replayed setup events)

-- how many grants end as committed by them
abbrev pub commits_after : Setup → List Event → ℕ
commits_after setup events = commits_of (replayed setup events)
