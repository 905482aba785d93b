-- What stands of a run that a fault ended (this project's own).
use Rattle.std.specs.Prelude.{◌≡◌, ◌≤◌, ℕ, List, length, All, nat_eq}
use Rattle.std.specs.List.{IsDistinct}
use Rattle.events.specs.declared.event.Event.{Event}
use Rattle.saverecord.specs.Logs.{Holds}
use Rattle.saverecord.specs.Texts.{whole_alone}
use Rattle.schedule.specs.declared.setup.Setup.{Setup}
use Rattle.executions.specs.Receipt.{Receipt}
use Rattle.farmend.specs.Receipts.{StandsOn, tickets_of}
use Rattle.executions.specs.Replays.{farm_after, commits_after}

-- the replay of the setup and the events has the bytes as its record, and these commits; the receipts are on its lines,
-- each under a ticket of its own, and at most as many as the commits: a commit has none if nobody saw its end
pub record IsStanding (setup : Setup) (events : List Event) (saved : List ℕ) (commits : ℕ)
    (receipts : List Receipt) : Type 0 where
  pub record_is : Holds (whole_alone saved) (farm_after setup events).saved
  pub commits_are : commits ≡ commits_after setup events
  pub stand : All (StandsOn (farm_after setup events)) receipts
  pub differ : IsDistinct nat_eq (tickets_of receipts)
  pub count : length receipts ≤ commits
