-- Which executions are in use: from an accepted Begin to the accepted Finish or Abort of that ticket, or the accepted
-- restart of that node. The rule is this project's own.
use Rattle.std.specs.Prelude.{◌≡◌, ℕ, Bool, true, false, ◌==◌, ◌&&◌, not, filter, List, [], ◌∷◌, ◌++◌, Some, Result, Ok, Err}
use Rattle.std.specs.List.{list_any}
use Rattle.names.specs.Contents.{content_digest}
use Rattle.protocol.specs.Farm.{farm_limits}
use Rattle.protocol.specs.Lists.{In, nth}
use Rattle.protocol.specs.Names.{NodeId, Ticket, Want}
use Rattle.protocol.specs.Machine.{Grant}
use Rattle.events.specs.declared.ask.KeptAsk.TheVariants as ask
use Rattle.protocol.specs.Replay.{Farm, opening, step}
use Rattle.events.specs.declared.event.Event.{Event}
use Rattle.events.specs.declared.event.Event.TheVariants.{Begin, Finish, Abort, RestartNode}
use Rattle.events.specs.declared.answer.EventRefusal.{EventRefusal}
use Rattle.events.specs.declared.answer.Outcome.{Outcome}
use Rattle.farmhistory.specs.declared.uses.InUse.{InUse}
use Rattle.farmhistory.specs.History.{History}

abbrev pub is_on : NodeId → InUse → Bool
is_on node used = used.node.0 == node.0

abbrev pub is_use_of : NodeId → Ticket → InUse → Bool
is_use_of node ticket used = (used.node.0 == node.0) && (used.ticket.0 == ticket.0)

-- the node executes an ask under the ticket
abbrev pub Runs : Farm → InUse → Type 0
Runs farm used = (place : ℕ) × (wants : List Want) × (grant : Grant) × (recalled : Bool)
    × (nth (farm.nodes used.node.0).asks place ≡ Some (ask.Running wants grant recalled)) × (grant.ticket ≡ used.ticket)

-- these are the executions of the farm's nodes
pub record AreUsed (farm : Farm) (uses : List InUse) : Type 0 where
  pub each : (used : InUse) → In used uses → Runs farm used
  pub all : (used : InUse) → Runs farm used → In used uses

-- what is in use after an accepted event
abbrev pub out_after : Event → List InUse → List InUse
out_after (Begin node ticket) out = out ++ record { node = node; ticket = ticket } ∷ []
out_after (Finish node ticket lefts) out = filter (λ used. not (is_use_of node ticket used)) out
out_after (Abort node ticket) out = filter (λ used. not (is_use_of node ticket used)) out
out_after (RestartNode node) out = filter (λ used. not (is_on node used)) out
out_after other out = out

-- a refused event begins and ends none
abbrev pub out_if : Result Outcome EventRefusal → Event → List InUse → List InUse
out_if (Ok outcome) event out = out_after event out
out_if (Err reason) event out = out

-- what is in use after these events
abbrev pub out_from : List Event → Farm → List InUse → List InUse
out_from [] farm out = out
out_from (event ∷ events) farm out =
    out_from events (step content_digest farm_limits farm event).farm (out_if (step content_digest farm_limits farm event).outcome event out)

unfoldable pub out_of : History → List InUse
out_of history = out_from history.events (opening content_digest history.setup.nodes) []
