-- What a lease table holds, and whether an ask fits.
use Rattle.std.specs.Prelude.{◌==◌, Bool, true, false, not, ◌&&◌, List, [], map, filter, Option, Some, None}
use Rattle.std.specs.List.{find, flat_map}
use Rattle.names.specs.declared.limits.TheConstants.{INSTANCES}
use Rattle.farm_base.specs.declared.lease.Lease.{Lease}
use Rattle.protocol.specs.Names.{FolderName, Slot, is_private, NodeId, Life, Ask, Ticket, Want, any_shared, leased_wants}
use Rattle.protocol.specs.Ledger.{has_slot, some_lease, lowest, slot_for, all_taken, busy, retires}
use Rattle.leases.specs.declared.lease_table.Fit.{Fit}
use Rattle.leases.specs.declared.lease_table.Fit.TheVariants.{Fits, Busy, InstancesSpent}
use Rattle.leases.specs.declared.lease_table.SlotState.{SlotState}
use Rattle.leases.specs.declared.lease_table.SlotState.TheVariants as state
use Rattle.holdings.specs.Leases.{among}
use Rattle.leases.specs.Leases.{Table}

abbrev pub is_leased : Table → Slot → Bool
is_leased t s = some_lease t.live s

abbrev pub is_free : Table → Slot → Bool
is_free t s = not (some_lease t.live s) && not (among t.retired s)

-- no instance of the folder is free, of 1 to 4,096
abbrev pub is_spent : (Slot → Bool) → FolderName → Bool
is_spent free f = lowest free f 1 INSTANCES == 0

-- no instance is left; or else the one slot of another folder is leased; or else the ask fits
abbrev pub first_fit : Bool → Bool → Fit
first_fit true b = InstancesSpent
first_fit false true = Busy
first_fit false false = Fits

-- whether these wants fit. A PRIVATE folder has 4,096 instances
abbrev pub fit_of : Table → Bool → List Want → Fit
fit_of t tenure wants =
    first_fit (all_taken INSTANCES (is_free t) (leased_wants tenure wants)) (busy (is_leased t) (leased_wants tenure wants))

-- the slots that these wants get, and whether each may be written
abbrev pub slots_of : Table → List Want → List (Slot × Bool)
slots_of t wants = map (λ w. (slot_for INSTANCES (is_free t) w, w.writable)) wants

-- the lease that an ask gets
abbrev pub lease_for : Table → NodeId → Life → Ask → List Want → Bool → Ticket → Lease
lease_for t n l a wants tenure ticket = record {
  ticket = ticket;
  node = n;
  life = l;
  ask = a;
  shared = any_shared wants;
  tenure = tenure;
  slots = slots_of t (leased_wants tenure wants);
}

abbrev pub state_by : Option Lease → Bool → SlotState
state_by (Some g) b = state.Leased g.ticket
state_by None true = state.Retired
state_by None false = state.Free

-- the slot is leased, or else retired, or else free
abbrev pub state_of : Table → Slot → SlotState
state_of t s = state_by (find (λ g. has_slot g.slots s) t.live) (among t.retired s)

-- the PRIVATE slots of a lease
abbrev pub private_slots : List (Slot × Bool) → List Slot
private_slots slots = map (λ x. x.0) (filter (λ x. is_private x.0.folder.mode) slots)

-- the same for the lease, if there is one
abbrev pub private_of : Option Lease → List Slot
private_of None = []
private_of (Some g) = private_slots g.slots

-- the PRIVATE slots of leases
abbrev pub all_private : List Lease → List Slot
all_private leases = flat_map (λ g. private_slots g.slots) leases

-- the PRIVATE slots of the lease are retired too, if there is one
abbrev pub retires_some : Option Lease → (Slot → Bool) → Slot → Bool
retires_some None retired = retired
retires_some (Some g) retired = retires g retired
