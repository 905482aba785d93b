-- The line of versions of one slot.
use Rattle.std.specs.Prelude.{ℕ, zero, suc, nat_eq, nat_lt, Bool, List, map, Option, None, slice_get}
use Rattle.std.specs.List.{position_from, list_all}
use Rattle.std.specs.List.Sorted.{IsStrictlyIncreasing}
use Rattle.std.specs.Option.{option_map}
use Rattle.names.specs.declared.digest.Digest.{Digest}
use Rattle.farm_base.specs.declared.message.LineVersion.{LineVersion}
use Rattle.names.specs.declared.number.Ticket.{Ticket}

-- the tickets of some versions
abbrev pub tickets : List LineVersion → List ℕ
tickets line = map (λ version. version.ticket.0) line

-- a line: each ticket is above the one before it
abbrev pub IsLine : List LineVersion → Type 0
IsLine line = IsStrictlyIncreasing (tickets line)

-- the ticket is above all on the line
abbrev pub is_above_all : Ticket → List LineVersion → Bool
is_above_all ticket line = list_all (λ version. nat_lt version.ticket.0 ticket.0) line

-- the version of a number, counted from 1
abbrev pub version_in : List LineVersion → ℕ → Option LineVersion
version_in line zero = None
version_in line (suc k) = slice_get line k

-- the ticket of the version of a number
abbrev pub ticket_in : List LineVersion → ℕ → Option Ticket
ticket_in line number = option_map (λ version. version.ticket) (version_in line number)

-- the digest of the version of a number
abbrev pub digest_in : List LineVersion → ℕ → Option Digest
digest_in line number = option_map (λ version. version.digest) (version_in line number)

-- the number of the first version with a ticket, counted from 1
abbrev pub number_in : List LineVersion → Ticket → Option ℕ
number_in line ticket = position_from (λ version. nat_eq version.ticket.0 ticket.0) 1 line
