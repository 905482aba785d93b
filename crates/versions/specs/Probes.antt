-- Tickets that rise, and how often a search looks at them.
use Rattle.std.specs.Prelude.{ℕ, zero, suc, nat_eq, List, length, map, Option, None, slice_get}
use Rattle.std.specs.Int.Digits.{digits_of}
use Rattle.std.specs.List.{position_from}
use Rattle.std.specs.List.Sorted.{IsStrictlyIncreasing}
use Rattle.names.specs.declared.number.Ticket.{Ticket}

-- tickets, and how many probes of them were made
pub record ProbedTickets : Type 0 where
  pub tickets : List Ticket
  pub probes : ℕ

-- each ticket is above the one before it
abbrev pub AreRising : List Ticket → Type 0
AreRising tickets = IsStrictlyIncreasing (map (λ ticket. ticket.0) tickets)

-- the ticket of a number, counted from 1
abbrev pub ticket_numbered : List Ticket → ℕ → Option Ticket
ticket_numbered tickets zero = None
ticket_numbered tickets (suc k) = slice_get tickets k

-- the number at which a ticket first stands, counted from 1
abbrev pub number_among : List Ticket → Ticket → Option ℕ
number_among tickets ticket = position_from (λ other. nat_eq other.0 ticket.0) 1 tickets

-- how many binary digits a number has: 0 has none, 1 has one, 2 and 3 have two
abbrev pub binary_digit_count : ℕ → ℕ
binary_digit_count n = length (digits_of 2 n)
