-- What contracts see of the asks of a node.
use Rattle.std.specs.Prelude.{ℕ, Bool, true, false, List, [], Option, Some, None, is_some}
use Rattle.protocol.specs.Names.{Ticket}
use Rattle.protocol.specs.Machine.{Grant, GrantedSlot, News}
use Rattle.events.specs.declared.answer.How.{How}
use Rattle.events.specs.declared.ask.KeptAsk.{KeptAsk}
use Rattle.events.specs.declared.ask.KeptAsk.TheVariants.{Open, Holding, Running, Finished, Over}
use Rattle.protocol.specs.Nodes as node
use Rattle.nodeasks.specs.declared.asks.Sought.{Sought}
use Rattle.nodeasks.specs.declared.asks.Sought.TheVariants as sought
use Rattle.nodeasks.specs.declared.asks.AskChange.{AskChange}
use Rattle.nodeasks.specs.declared.asks.AskChange.TheVariants as change
use Rattle.nodeasks.specs.declared.ask_state.AskState as state
use Rattle.nodeasks.specs.declared.ask_state.AskState.TheVariants as told

-- the ask has its lease under the ticket, and stands so
abbrev pub is_sought : Sought → Ticket → KeptAsk → Bool
is_sought sought.Held t x = is_some (node.held t x)
is_sought sought.Running t x = is_some (node.running t x)
is_sought sought.HeldOrRunning t x = is_some (node.held_or_running t x)
is_sought sought.Finished t x = is_some (node.finished t x)
is_sought sought.Recallable t x = is_some (node.recallable t x)

-- the slots of an ask that is granted or running, none of another
abbrev pub slots_in : KeptAsk → List GrantedSlot
slots_in (Open wants tenure) = []
slots_in (Holding wants g r) = g.slots
slots_in (Running wants g r) = g.slots
slots_in (Finished wants g news) = []
slots_in (Over how) = []

-- the lease of an ask that is granted or running
abbrev pub lease_in : KeptAsk → Option Grant
lease_in (Open wants tenure) = None
lease_in (Holding wants g r) = Some g
lease_in (Running wants g r) = Some g
lease_in (Finished wants g news) = None
lease_in (Over how) = None

-- how an ask ended, None while it is present
abbrev pub way_out : KeptAsk → Option How
way_out (Open wants tenure) = None
way_out (Holding wants g r) = None
way_out (Running wants g r) = None
way_out (Finished wants g news) = None
way_out (Over how) = Some how

-- the same of an ask that may not be there
abbrev pub way_out_of : Option KeptAsk → Option How
way_out_of None = None
way_out_of (Some x) = way_out x

-- the ask is granted or running as a tenure whose folder another ask uses
abbrev pub is_in_use : List KeptAsk → ℕ → KeptAsk → Bool
is_in_use asks a (Open wants tenure) = false
is_in_use asks a (Holding wants g r) = node.in_use asks a wants g
is_in_use asks a (Running wants g r) = node.in_use asks a wants g
is_in_use asks a (Finished wants g news) = false
is_in_use asks a (Over how) = false

abbrev pub is_open : KeptAsk → Bool
is_open (Open wants tenure) = true
is_open (Holding wants g r) = false
is_open (Running wants g r) = false
is_open (Finished wants g news) = false
is_open (Over how) = false

-- an open ask is granted
abbrev pub holds : Grant → KeptAsk → KeptAsk
holds g (Open wants tenure) = Holding wants g false
holds g (Holding wants old r) = Holding wants old r
holds g (Running wants old r) = Running wants old r
holds g (Finished wants old news) = Finished wants old news
holds g (Over how) = Over how

-- a granted ask begins
abbrev pub runs : KeptAsk → KeptAsk
runs (Open wants tenure) = Open wants tenure
runs (Holding wants g r) = Running wants g r
runs (Running wants g r) = Running wants g r
runs (Finished wants g news) = Finished wants g news
runs (Over how) = Over how

-- a running ask ends with these news
abbrev pub ends_with : List News → KeptAsk → KeptAsk
ends_with news (Open wants tenure) = Open wants tenure
ends_with news (Holding wants g r) = Holding wants g r
ends_with news (Running wants g r) = Finished wants g news
ends_with news (Finished wants g old) = Finished wants g old
ends_with news (Over how) = Over how

-- an ask that is granted or running is recalled
abbrev pub recalls : KeptAsk → KeptAsk
recalls (Open wants tenure) = Open wants tenure
recalls (Holding wants g r) = Holding wants g true
recalls (Running wants g r) = Running wants g true
recalls (Finished wants g news) = Finished wants g news
recalls (Over how) = Over how

-- an ask to which this happens
abbrev pub changed : AskChange → KeptAsk → KeptAsk
changed (change.Grant g) s = holds g s
changed change.Begin s = runs s
changed (change.Finish news) s = ends_with news s
changed change.Recall s = recalls s
changed (change.End how) s = Over how

-- how an ask stands, as callers are told
abbrev pub told_state : KeptAsk → state.AskState
told_state (Open wants tenure) = told.Pending
told_state (Holding wants g r) = told.Granted g
told_state (Running wants g r) = told.Running g
told_state (Finished wants g news) = told.Finished g.ticket
told_state (Over how) = told.Over how

-- the same, where the ask may be forgotten
abbrev pub told_unless : Bool → KeptAsk → state.AskState
told_unless false x = told_state x
told_unless true x = told.Forgotten

-- how an ask that may not be there ended, None also where it is forgotten
abbrev pub way_out_unless : Bool → Option KeptAsk → Option How
way_out_unless false x = way_out_of x
way_out_unless true x = None
