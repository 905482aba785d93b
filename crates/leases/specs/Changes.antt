-- The changes of one event over a lease table.
use Rattle.std.specs.Prelude.{◌≡◌, ℕ, ◌+◌, ◌≤◌, if◌then◌else◌, Bool, not, ◌&&◌, List, [], ◌∷◌, ◌++◌, length, map, filter, Option, Some, None}
use Rattle.std.specs.List.{flat_map}
use Rattle.farm_base.specs.declared.lease.Lease.{Lease}
use Rattle.protocol.specs.Names.{Slot, FolderName, Ticket}
use Rattle.protocol.specs.Ledger.{is_saved}
use Rattle.holdings.specs.declared.ending.Ending.{Ending}
use Rattle.holdings.specs.Endings.{ends_lease, has_ended}
use Rattle.leaseindex.specs.Index.{index_entries}
use Rattle.leaseindex.specs.Instances.{lease_instances, slot_names}
use Rattle.leases.specs.Leases.{Table}

-- changes over a lease table, as contracts see them
pub record Change : Type 0 where
  -- what ended of the table's leases
  pub ended : List Ending
  -- the leases that were granted since and have not ended, the oldest first
  pub granted : List Lease
  -- the PRIVATE slots that are not granted again either
  pub retired : List Slot

-- the slots of the leases that this ends
abbrev pub slots_ended : Ending → List Lease → List (Slot × Bool)
slots_ended e leases = flat_map (λ g. g.slots) (filter (ends_lease e) leases)

-- the table with the changes
abbrev pub changed : Table → Change → Table
changed t c =
    record { live = filter (λ g. not (has_ended c.ended g)) t.live ++ c.granted; retired = t.retired ++ c.retired }

-- the tickets of the leases that these end, of those that the record has
abbrev pub saved_tickets : List Ending → List Lease → List Ticket
saved_tickets ended leases = map (λ g. g.ticket) (filter (λ g. has_ended ended g && is_saved g) leases)

-- the ticket of the lease, if there is one and the record has it
abbrev pub ticket_of_saved : Option Lease → List Ticket
ticket_of_saved None = []
ticket_of_saved (Some g) = if is_saved g then g.ticket ∷ [] else []

-- a lease table with room, as contracts see it
pub record RoomyTable : Type 0 where
  pub table : Table
  -- how many leases it can hold, those that it has among them
  pub lease_room : ℕ
  -- how many slots that are never granted again it can hold, likewise
  pub slot_room : ℕ
  -- what its index of folders is to have of the granted leases
  pub tickets : List (FolderName × Ticket)
  -- how many more folders the index can hold
  pub index_room : ℕ
  -- the instances that the granted leases have
  pub instances : List (FolderName × ℕ)
  -- of how many more folders it can note instances
  pub instance_room : ℕ
  -- how many more leases it can count by ask and node
  pub count_room : ℕ
  -- the folders and instances of the slots that the changes retire
  pub retired_names : List (FolderName × ℕ)
  -- of how many more folders it can note instances that are never granted again
  pub retired_room : ℕ

-- there is room for what the changes add
pub record HasRoom (r : RoomyTable) (c : Change) : Type 0 where
  pub leases : length r.table.live + length c.granted ≤ r.lease_room
  pub slots : length r.table.retired + length c.retired ≤ r.slot_room
  pub tickets : r.tickets ≡ index_entries c.granted
  pub folders : length r.tickets ≤ r.index_room
  pub instances : r.instances ≡ lease_instances c.granted
  pub taken : length r.instances ≤ r.instance_room
  pub counts : length c.granted ≤ r.count_room
  pub retired : r.retired_names ≡ slot_names c.retired
  pub noted : length r.retired_names ≤ r.retired_room
