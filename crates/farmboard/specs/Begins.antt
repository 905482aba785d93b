-- How an execution begins, and how a lease is given back.
use Rattle.std.specs.Prelude.{◌≡◌, ◌≢◌, ℕ, Bool, true, false, ◌&&◌, not, List, map, Some, Ok, Err, is_some}
use Rattle.names.specs.Contents.{content_digest}
use Rattle.protocol.specs.Lists.{nth}
use Rattle.protocol.specs.Names.{NodeId, Life, Ticket, Want}
use Rattle.protocol.specs.Machine.{Grant}
use Rattle.protocol.specs.Nodes.{first, held, running}
use Rattle.protocol.specs.Replay.{Farm, is_node}
use Rattle.events.specs.declared.ask.KeptAsk.TheVariants as ask
use Rattle.events.specs.declared.event.Event.{Event}
use Rattle.events.specs.declared.event.Event.TheVariants.{Begin}
use Rattle.events.specs.declared.answer.EventNote.TheVariants as note
use Rattle.events.specs.declared.answer.NodeNote.TheVariants as node_note
use Rattle.events.specs.declared.answer.EventRefusal.{EventRefusal}
use Rattle.events.specs.declared.answer.EventRefusal.TheVariants as refusal
use Rattle.events.specs.declared.answer.NodeRefusal.TheVariants as node
use Rattle.events.specs.declared.answer.Outcome.{Outcome}
use Rattle.nodecore.specs.Shown.{MayBegin}
use Rattle.farmhistory.specs.declared.refusal.BoardRefusal.{BoardRefusal}
use Rattle.farmhistory.specs.declared.refusal.BoardRefusal.TheVariants as board
use Rattle.farmboard.specs.declared.tokens.Granted.{Granted}
use Rattle.farmboard.specs.declared.tokens.Running.{Running}
use Rattle.farmboard.specs.declared.tokens.Look.{Look}
use Rattle.farmboard.specs.declared.tokens.Look.TheVariants.{Ready, Missing, Gone}
use Rattle.farmboard.specs.declared.tokens.Ended.{Ended}
use Rattle.farmboard.specs.declared.tokens.Ended.TheVariants.{Sent, Stale}
use Rattle.farmhistory.specs.History.{History, outcome_of, Took, Did}
use Rattle.farmboard.specs.Tokens.{is_in_life}

-- the Begin of the grant
abbrev pub begin_of : Granted → Event
begin_of granted = Begin granted.node granted.grant.ticket

-- ready: the world would accept it; missing: it would refuse it for want of contents; gone: for anything else
abbrev pub Looks : History → Granted → Look → Type 0
Looks history granted Ready = (outcome : Outcome) × (outcome_of history (begin_of granted) ≡ Ok outcome)
Looks history granted Missing = outcome_of history (begin_of granted) ≡ Err (refusal.Node node.ContentsMissing)
Looks history granted Gone = (reason : EventRefusal) × (outcome_of history (begin_of granted) ≡ Err reason) × (reason ≢ refusal.Node node.ContentsMissing)

-- the contents have the digests that the lease names
abbrev pub AreBases : Grant → List (List ℕ) → Type 0
AreBases grant bases = map content_digest bases ≡ map (λ slot. slot.digest) grant.slots

-- what an execution under the ticket would begin with
pub record Lends (farm : Farm) (node : NodeId) (ticket : Ticket) (since : Life) (grant : Grant) (contents : List (List ℕ)) : Type 0 where
  pub there : is_node farm node ≡ true
  pub life : since ≡ (farm.nodes node.0).life
  pub lease : MayBegin (farm.nodes node.0) ticket grant
  pub bases : AreBases grant contents

-- of the token's ask
pub record IsBegunOf (granted : Granted) (begun : Running) : Type 0 where
  pub node : begun.node ≡ granted.node
  pub wants : begun.wants ≡ granted.wants
  pub ticket : begun.grant.ticket ≡ granted.grant.ticket

-- the node executes an ask under the lease, in this life
pub record IsUsed (farm : Farm) (begun : Running) : Type 0 where
  pub there : is_node farm begun.node ≡ true
  pub life : begun.life ≡ (farm.nodes begun.node.0).life
  pub runs : (place : ℕ) × (wants : List Want) × (recalled : Bool)
      × (nth (farm.nodes begun.node.0).asks place ≡ Some (ask.Running wants begun.grant recalled))

-- the node is in this life and isn't down, and an ask of it is granted under the ticket and not begun
abbrev pub is_held : Farm → NodeId → Life → Ticket → Bool
is_held farm node life ticket = is_in_life farm node life && (not (farm.nodes node.0).spent && is_some (first (held ticket) (farm.nodes node.0).asks 0))

-- the same of an execution
abbrev pub is_running : Farm → NodeId → Life → Ticket → Bool
is_running farm node life ticket = is_in_life farm node life && (not (farm.nodes node.0).spent && is_some (first (running ticket) (farm.nodes node.0).asks 0))

-- the lease is given back, or nothing is appended where the node no longer has it
abbrev pub GivesBack : Bool → History → Event → Ticket → History → Ended → Type 0
GivesBack has old event ticket new Sent = (has ≡ true) × Did old event new (note.Node (node_note.Aborted ticket))
GivesBack has old event ticket new Stale = (has ≡ false) × (new ≡ old)

-- the lease is kept: the schedule is full, memory ran out, or the world refused the event, as it is the tenure of a
-- folder that another ask of the node uses
abbrev pub KeepsLease : Bool → History → Event → History → BoardRefusal → Type 0
KeepsLease has old event new (board.Event reason) = (has ≡ true) × (reason ≡ refusal.Node node.TenureInUse)
    × Took old event new (Err (board.Event reason))
KeepsLease has old event new reason = (has ≡ true) × Took old event new (Err reason)
