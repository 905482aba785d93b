-- What ends leases.
use Rattle.std.specs.Prelude.{if◌then◌else◌, Bool, ◌&&◌, List, Option, Some, None}
use Rattle.std.specs.List.{list_any}
use Rattle.farm_base.specs.declared.lease.Lease.{Lease}
use Rattle.protocol.specs.Names.{Slot}
use Rattle.protocol.specs.Ledger.{has_slot, has_ticket, is_at, is_older}
use Rattle.holdings.specs.declared.ending.Ending.{Ending}
use Rattle.holdings.specs.declared.ending.Ending.TheVariants as ending

-- the lease is that of the ticket, of the node, or of a life of the node below this one
abbrev pub ends_lease : Ending → Lease → Bool
ends_lease (ending.Ticket t) g = has_ticket t g
ends_lease (ending.Node n) g = is_at n g
ends_lease (ending.LivesBelow n l) g = is_older n l g

-- one of these endings ends the lease
abbrev pub has_ended : List Ending → Lease → Bool
has_ended ended g = list_any (λ e. ends_lease e g) ended

-- one of these leases that this ends has the slot
abbrev pub frees : Ending → List Lease → Slot → Bool
frees e leases s = list_any (λ g. ends_lease e g && has_slot g.slots s) leases

-- the lease, unless it has ended
abbrev pub standing : List Ending → Option Lease → Option Lease
standing ended None = None
standing ended (Some g) = if has_ended ended g then None else Some g
