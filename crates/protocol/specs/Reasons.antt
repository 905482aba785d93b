-- When each refusal comes (docs/PROOFS.md, "What is accepted").
use Rattle.std.specs.Prelude.{◌≡◌, ◌≢◌, ℕ, ◌≤◌, Bool, true, false, ◌⊎◌, Option, Some, None, ⊤, List, [], length, map, Result, Ok, Err}
use Rattle.farm_base.specs.Kinds.{is_tenure}
use Rattle.protocol.specs.Lists.{In, nth}
use Rattle.protocol.specs.Names.{Shared, NodeId, Ticket, Want, wants_shared}
use Rattle.protocol.specs.Machine.{Grant, GrantedSlot, Message, Said, ToCoord, Machine, Live, Leased, line, written}
use Rattle.farm_base.specs.declared.message.Message.TheVariants as to
use Rattle.events.specs.declared.answer.CoordRefusal.{CoordRefusal}
use Rattle.events.specs.declared.answer.CoordRefusal.TheVariants as coord
use Rattle.events.specs.declared.answer.NodeRefusal.{NodeRefusal}
use Rattle.events.specs.declared.answer.NodeRefusal.TheVariants as node
use Rattle.events.specs.declared.answer.EventRefusal.{EventRefusal}
use Rattle.events.specs.declared.answer.EventRefusal.TheVariants as event
use Rattle.events.specs.declared.answer.Outcome.{Outcome}
use Rattle.protocol.specs.Ledger.{Limits, Work, begin_work, saves, handled, withdrawn, retired, pruned, nudged}
use Rattle.protocol.specs.World.{KeptAsk, Holding, Running, Node, World, RunsTenure, IsTenureOf, Idle}
use Rattle.protocol.specs.Nodes.{Left}
use Rattle.protocol.specs.Replay.{Event, Tenure, Deliver, Begin, Finish, Abort, Resend, Nudge, Withdraw, Prune, Retire, RestartNode, RestartCoordinator, Forge, Forget, Farm}
use Rattle.protocol.specs.Replay as replay
use Rattle.protocol.specs.Meaning.{IsLive, IsAsk, IsNeeded, node_at}

-- the farm has a node with this number: they are counted from 1
abbrev pub IsThere : Farm → NodeId → Type 0
IsThere farm who = (1 ≤ who.0) × (who.0 ≤ farm.size)

-- the event is for the coordinator
abbrev pub Reaches : World → Farm → Event → Type 0
Reaches world farm (Deliver number) = (saying : ToCoord) × (nth world.pool number ≡ Some (Said saying))
Reaches world farm Nudge = ⊤
Reaches world farm (Withdraw ticket) = ⊤
Reaches world farm (Prune slot) = ⊤
Reaches world farm (Retire who) = IsThere farm who
Reaches world farm happening = ⊥

module _ (state : Node) (ticket : Ticket) (place : ℕ) (wants : List Want) (grant : Grant) where
  -- an ask holds the grant of the ticket
  abbrev pub HoldsUnder : Type 0
  HoldsUnder = ((recalled : Bool) × IsAsk state place (Holding wants grant recalled)) × (grant.ticket ≡ ticket)

  -- an ask runs under the ticket
  abbrev pub RunsUnder : Type 0
  RunsUnder = ((recalled : Bool) × IsAsk state place (Running wants grant recalled)) × (grant.ticket ≡ ticket)

module _ (limits : Limits) where
  -- ---- the coordinator

  -- a call of the coordinator may be refused for this, and for nothing else
  abbrev pub CallBecause : Machine → Event → CoordRefusal → Type 0
  CallBecause machine (Withdraw ticket) coord.NotLive = IsLive machine ticket → ⊥
  CallBecause machine (Withdraw ticket) coord.Tenure =
      (grant : Grant) × Live machine grant × (grant.ticket ≡ ticket) × (is_tenure grant.kind ≡ true)
  CallBecause machine (Prune slot) coord.SlotLeased = Leased machine slot
  CallBecause machine (Prune slot) coord.NoSuchSlot = line limits.empty machine slot ≡ []
  CallBecause machine (Prune slot) coord.TicketsSpent = limits.greatest ≤ machine.last
  CallBecause machine (Retire who) coord.NodeRetired = machine.gone who.0 ≡ true
  CallBecause machine (Retire who) coord.TenureHeld =
      ((grant : Grant) × Live machine grant × (grant.node ≡ who) × (is_tenure grant.kind ≡ true))
      ⊎ (machine.old_home ≡ Some who)
  CallBecause machine happening reason = ⊥

  -- what the coordinator decides at a message
  abbrev pub message_decision : Farm → Option Message → Option (Result Work CoordRefusal)
  message_decision farm (Some (to.ToCoord saying)) = Some (Ok (handled limits saying (begin_work farm.ledger)))
  message_decision farm other = None

  -- what the coordinator decides at the event
  abbrev pub decision_at : Farm → Event → Option (Result Work CoordRefusal)
  decision_at farm (Deliver number) = message_decision farm (nth farm.pool number)
  decision_at farm Nudge = Some (Ok (nudged limits (begin_work farm.ledger)))
  decision_at farm (Withdraw ticket) = Some (withdrawn limits ticket (begin_work farm.ledger))
  decision_at farm (Prune slot) = Some (pruned limits slot (begin_work farm.ledger))
  decision_at farm (Retire who) = Some (retired limits who (begin_work farm.ledger))
  decision_at farm happening = None

  -- the decision changes what the record holds
  abbrev pub NeedsSave : Farm → Event → Type 0
  NeedsSave farm happening =
      (work : Work) × (decision_at farm happening ≡ Some (Ok work)) × (saves work.ledger ≢ saves farm.ledger)

  -- the coordinator may refuse an event for this
  abbrev pub CoordBecause : World → Farm → Event → CoordRefusal → Type 0
  CoordBecause world farm happening coord.Down = world.down ≢ None
  CoordBecause world farm happening coord.SaveFault =
      (world.down ≡ None) × (farm.armed ≢ None) × NeedsSave farm happening
  CoordBecause world farm happening reason = (world.down ≡ None) × CallBecause world.machine happening reason

  -- ---- the nodes

  -- a node may refuse an event for this
  abbrev pub NodeBecause : Event → Node → NodeRefusal → Type 0
  NodeBecause (RestartNode who) state node.LivesSpent = (state.spent ≡ true) ⊎ (limits.greatest ≤ state.life.0)
  NodeBecause (replay.Ask who wants) state node.NotHomeHere =
      (want : Want) × In want wants × (wants_shared want ≡ true) × (RunsTenure state.asks want.folder false → ⊥)
  NodeBecause (replay.Ask who wants) state node.AsksSpent = limits.greatest ≤ length state.asks
  NodeBecause (Tenure who folder) state node.TenureHere =
      (place : ℕ) × (kept : KeptAsk) × IsAsk state place kept × IsTenureOf (record folder { mode = Shared }) kept
  NodeBecause (Tenure who folder) state node.AsksSpent = limits.greatest ≤ length state.asks
  NodeBecause (Begin who ticket) state node.NoSuchTicket =
      (place : ℕ) (wants : List Want) (grant : Grant) → HoldsUnder state ticket place wants grant → ⊥
  NodeBecause (Begin who ticket) state node.ContentsMissing =
      (place : ℕ) × (wants : List Want) × (grant : Grant) × (granted : GrantedSlot)
      × HoldsUnder state ticket place wants grant
      × In granted grant.slots
      × (state.store granted.digest ≡ None)
  NodeBecause (Finish who ticket lefts) state node.NotRunning =
      (place : ℕ) (wants : List Want) (grant : Grant) → RunsUnder state ticket place wants grant → ⊥
  NodeBecause (Finish who ticket lefts) state node.TenureInUse =
      (place : ℕ) × (wants : List Want) × (grant : Grant)
      × RunsUnder state ticket place wants grant
      × (Idle state.asks place wants grant → ⊥)
  NodeBecause (Finish who ticket lefts) state node.WrongNews =
      (place : ℕ) × (wants : List Want) × (grant : Grant)
      × RunsUnder state ticket place wants grant
      × (map (λ (left : Left). left.slot) lefts ≢ written grant.slots)
  NodeBecause (Abort who ticket) state node.NoSuchTicket =
      (place : ℕ) (wants : List Want) (grant : Grant)
      → HoldsUnder state ticket place wants grant ⊎ RunsUnder state ticket place wants grant
      → ⊥
  NodeBecause (Abort who ticket) state node.TenureInUse =
      (place : ℕ) × (wants : List Want) × (grant : Grant)
      × (HoldsUnder state ticket place wants grant ⊎ RunsUnder state ticket place wants grant)
      × (Idle state.asks place wants grant → ⊥)
  NodeBecause (Forget who digest) state node.NoSuchContent = (digest ≡ limits.empty) ⊎ (state.store digest ≡ None)
  NodeBecause (Forget who digest) state node.Needed = IsNeeded state digest
  NodeBecause happening state node.LivesSpent = state.spent ≡ true
  NodeBecause happening state reason = ⊥

  -- ---- events

  -- why an event is refused so
  abbrev pub Because : World → Farm → Event → EventRefusal → Type 0
  Because world farm happening event.NoSuchMessage =
      (number : ℕ) × (happening ≡ Deliver number) × (nth world.pool number ≡ None)
  Because world farm happening event.NoSuchNode =
      (who : NodeId) × ((node_at world happening ≡ Some who) ⊎ (happening ≡ Retire who)) × (IsThere farm who → ⊥)
  Because world farm happening (event.Node reason) =
      (who : NodeId)
      × (node_at world happening ≡ Some who)
      × IsThere farm who
      × NodeBecause happening (world.nodes who.0) reason
  Because world farm happening (event.Coord reason) =
      Reaches world farm happening × CoordBecause world farm happening reason
  Because world farm happening event.OutOfMemory = ⊥

  -- a refusal has its reason, and what is accepted has no reason to be refused
  abbrev pub Fair : World → Farm → Event → Result Outcome EventRefusal → Type 0
  Fair world farm happening (Ok outcome) = (reason : EventRefusal) → Because world farm happening reason → ⊥
  Fair world farm happening (Err reason) = Because world farm happening reason
