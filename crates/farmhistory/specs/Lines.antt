-- What the lines and the leases of a farm say of versions.
use Rattle.std.specs.Prelude.{ℕ, Bool, ◌==◌, Option, Some, None, is_some}
use Rattle.std.specs.List.{list_any}
use Rattle.protocol.specs.Names.{Ticket, Slot}
use Rattle.protocol.specs.Nodes.{Left}
use Rattle.protocol.specs.Replay.{Farm}
use Rattle.farm_base.specs.declared.message.Version.{Version}
use Rattle.versions.specs.Line.{number_in}

-- the number of the version that stands on the slot's line under the ticket
abbrev pub number_on : Farm → Ticket → Slot → Option ℕ
number_on farm ticket slot = number_in (farm.ledger.line slot) ticket

abbrev pub stands : Farm → Ticket → Version → Bool
stands farm ticket version = is_some (number_on farm ticket version.slot)

abbrev pub or_zero : Option ℕ → ℕ
or_zero None = 0
or_zero (Some number) = number

-- a version of the slot, its number not known yet
abbrev pub version_of : Left → Version
version_of left = record { slot = left.slot; number = 0 }

-- the version with its number
abbrev pub numbered : Farm → Ticket → Version → Version
numbered farm ticket version = record { slot = version.slot; number = or_zero (number_on farm ticket version.slot) }

-- a live lease has the ticket
abbrev pub is_live : Farm → Ticket → Bool
is_live farm ticket = list_any (λ lease. lease.ticket.0 == ticket.0) farm.ledger.live
