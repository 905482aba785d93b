-- What a board keeps.
use Rattle.std.specs.Prelude.{◌≡◌, ℕ, ◌≤◌, ◌==◌, ◌||◌, nat_le, Bool, true, List, length}
use Rattle.std.specs.List.{list_any}
use Rattle.names.specs.declared.limits.TheConstants.{EVENTS}
use Rattle.protocol.specs.Replay.{Farm}
use Rattle.events.specs.declared.event.Event.{Event}
use Rattle.world.specs.Setups.{IsSetup}
use Rattle.farmhistory.specs.declared.counts.Counts.{Counts}
use Rattle.farmhistory.specs.declared.uses.InUse.{InUse}
use Rattle.farmhistory.specs.History.{History, farm_of, delivers, is_passed}
use Rattle.farmhistory.specs.Counts.{counts_of}
use Rattle.farmhistory.specs.Out.{out_of, AreUsed}

-- the number is not above this one, or among those that were passed ahead of it
abbrev pub is_behind : ℕ → List ℕ → ℕ → Bool
is_behind upto ahead number = nat_le number upto || list_any (λ passed. passed == number) ahead

-- what is behind after the event: what was, and what it delivers
abbrev pub PassesTo : Event → ℕ → List ℕ → ℕ → List ℕ → Type 0
PassesTo event upto ahead upto' ahead' = (number : ℕ) → is_behind upto' ahead' number ≡ (is_behind upto ahead number || delivers number event)

-- none is above the number
pub record AreFew (counts : Counts) (most : ℕ) : Type 0 where
  pub committed : counts.committed ≤ most
  pub kept : counts.kept ≤ most
  pub refused : counts.refused ≤ most

pub record IsBoard (world : Farm) (history : History) (upto : ℕ) (ahead : List ℕ) (uses : List InUse) (counted : Counts) : Type 0 where
  -- the world is the one that the schedule leads to
  pub farm : world ≡ farm_of history
  pub setup : IsSetup history.setup
  pub room : length history.events ≤ EVENTS
  -- the messages that are no longer left
  pub passed : (number : ℕ) → 1 ≤ number → is_passed history number ≡ is_behind upto ahead number
  -- the executions in use are those of the schedule
  pub out : uses ≡ out_of history
  -- and those that nodes execute
  pub used : AreUsed world uses
  pub counts : counted ≡ counts_of history
  pub few : AreFew counted (length history.events)
