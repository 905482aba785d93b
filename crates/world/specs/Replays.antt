-- What is promised of a schedule.
use Rattle.std.specs.Prelude.{◌≡◌, ℕ, List, ◌∷◌, ◌++◌}
use Rattle.names.specs.Contents.{content_digest}
use Rattle.protocol.specs.Farm.{farm_limits}
use Rattle.protocol.specs.Replay.{Farm, run, opening}
use Rattle.events.specs.declared.event.Event.{Event}
use Rattle.protocol.specs.Follows.{SafeBetween}
use Rattle.protocol.specs.Lists.{In}
use Rattle.protocol.specs.Names.{Slot}
use Rattle.protocol.specs.Machine.{LineVersion}
use Rattle.protocol.specs.Chronicle.{Writes, Headline}

-- the farm of this size after these events
abbrev pub replayed : ℕ → List Event → Farm
replayed size events = run content_digest farm_limits events (opening content_digest size)

-- from each part of the schedule to each later one the farm stays safe
abbrev pub StaysSafe : ℕ → List Event → Type 0
StaysSafe size events = (early late rest : List Event) → events ≡ early ++ (late ++ rest)
    → SafeBetween content_digest (replayed size early) (replayed size (early ++ late))

-- each version on a line is of one answer of the schedule, or of one that a failed save kept
abbrev pub AnswersVersions : ℕ → List Event → Type 0
AnswersVersions size events = (slot : Slot) (version : LineVersion) → In version ((replayed size events).ledger.line slot)
    → (early late : List Event) × (event : Event) × (events ≡ early ++ event ∷ late)
    × Writes content_digest farm_limits (replayed size early) event slot version

-- the headline holds after each part of the schedule
abbrev pub KeepsHeadline : ℕ → List Event → Type 0
KeepsHeadline size events = (early rest : List Event) → events ≡ early ++ rest
    → Headline content_digest farm_limits (replayed size early) × AnswersVersions size early
