-- The live leases by folder: an index from each folder whose one slot a lease has to the lease's ticket.
use Rattle.std.specs.Prelude.{◌≡◌, ◌==◌, Bool, true, List, map, filter, All, Option, Some}
use Rattle.std.specs.List.{flat_map}
use Rattle.names.specs.Folders.{folder_eq}
use Rattle.farm_base.specs.declared.lease.Lease.{Lease}
use Rattle.indexmap.specs.IndexMap.{IndexMap, get}
use Rattle.protocol.specs.Names.{Slot, FolderName, Ticket, only_slot}
use Rattle.protocol.specs.Ledger.{has_slot}

-- the ticket that an index has at a folder
abbrev pub ticket_at : {S : Type 0} → IndexMap FolderName Ticket S → FolderName → Option Ticket
ticket_at m f = get folder_eq m f

-- the index has the lease's ticket at each folder whose one slot the lease has
abbrev pub IsIndexed : (FolderName → Option Ticket) → Lease → Type 0
IsIndexed at g = (f : FolderName) → has_slot g.slots (only_slot f) ≡ true → at f ≡ Some g.ticket

-- the same for each of these leases
abbrev pub AreIndexed : (FolderName → Option Ticket) → List Lease → Type 0
AreIndexed at leases = All (IsIndexed at) leases

-- a ticket at each folder whose one slot is among these
abbrev pub slot_entries : Ticket → List (Slot × Bool) → List (FolderName × Ticket)
slot_entries t slots = map (λ x. (x.0.folder, t)) (filter (λ x. x.0.instance == 0) slots)

-- what an index has of these leases
abbrev pub index_entries : List Lease → List (FolderName × Ticket)
index_entries leases = flat_map (λ g. slot_entries g.ticket g.slots) leases
