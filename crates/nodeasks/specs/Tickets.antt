-- Which asks of a node have their lease under a ticket. This project's own.
use Rattle.std.specs.Prelude.{◌≡◌, ◌==◌, ℕ, Bool, true, false, if◌then◌else◌, List, Option, None, Some, slice_get}
use Rattle.indexmap.specs.IndexMap.{get, spare}
use Rattle.protocol.specs.Names.{Ticket}
use Rattle.protocol.specs.World.{keeps}
use Rattle.events.specs.declared.ask.KeptAsk.{KeptAsk}
use Rattle.nodeasks.specs.declared.ticket_index.Holders.{Holders}
use Rattle.nodeasks.specs.declared.ticket_index.Holders.TheVariants.{One, Several}
use Rattle.nodeasks.specs.declared.ticket_index.TicketIndex.{TicketIndex}

abbrev pub ticket_eq : Ticket → Ticket → Bool
ticket_eq t u = t.0 == u.0

-- the asks that were granted the ticket, None where none was
abbrev pub holders_of : TicketIndex → Ticket → Option Holders
holders_of x t = get ticket_eq x.holders t

-- the ask at the place is one of them, or may be
abbrev pub has_place : Option Holders → ℕ → Bool
has_place None i = false
has_place (Some (One place)) i = place == i
has_place (Some Several) i = true

-- the ask at the place may have its lease under the ticket
abbrev pub may_have : TicketIndex → Ticket → ℕ → Bool
may_have x t i = has_place (holders_of x t) i

-- the holders of a ticket, and the ask at the place
abbrev pub with_holder : Option Holders → ℕ → Holders
with_holder None i = One i
with_holder (Some (One place)) i = if place == i then One i else Several
with_holder (Some Several) i = Several

-- the holders of a ticket but the ask at the place
abbrev pub without_holder : Option Holders → ℕ → Option Holders
without_holder None i = None
without_holder (Some (One place)) i = if place == i then None else Some (One place)
without_holder (Some Several) i = Some Several

-- how many more tickets fit in without memory
abbrev pub ticket_room : TicketIndex → ℕ
ticket_room x = spare x.holders

-- each ask that has its lease under a ticket is found by it
pub record AreIndexed (x : TicketIndex) (asks : List KeptAsk) : Type 0 where
  pub found : (i : ℕ) (ask : KeptAsk) (t : Ticket) → slice_get asks i ≡ Some ask → keeps ask t ≡ true
      → may_have x t i ≡ true
