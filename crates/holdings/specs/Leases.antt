-- Leases that may be live together, and slots.
use Rattle.std.specs.Prelude.{◌≡◌, ◌<◌, Bool, true, false, not, List, map, All, AllPairs}
use Rattle.std.specs.List.{list_any}
use Rattle.std.specs.List.Sorted.{IsStrictlySortedBy}
use Rattle.names.specs.Slots.{slot_cmp}
use Rattle.farm_base.specs.declared.lease.Lease.{Lease}
use Rattle.protocol.specs.Names.{Slot, slot_eq, Want, wants_shared}
use Rattle.protocol.specs.Machine.{LineVersion}
use Rattle.protocol.specs.Ledger.{has_slot}

-- the first lease has the lower ticket
abbrev pub IsBefore : Lease → Lease → Type 0
IsBefore g h = g.ticket.0 < h.ticket.0

-- no slot is in both leases
abbrev pub AreApart : Lease → Lease → Type 0
AreApart g h = (s : Slot) → has_slot g.slots s ≡ true → has_slot h.slots s ≡ false

-- the slots of a lease rise
abbrev pub Rises : Lease → Type 0
Rises g = IsStrictlySortedBy slot_cmp (map (λ x. x.0) g.slots)

-- leases that may be live together, the oldest first
pub record AreLeases (live : List Lease) : Type 0 where
  -- tickets rise
  pub tickets : AllPairs IsBefore live
  -- no slot is in two leases
  pub apart : AllPairs AreApart live
  pub slots : All Rises live

-- the lease's ticket is above all on the lines of its slots
abbrev pub IsOpen : (Slot → List LineVersion) → Lease → Type 0
IsOpen line g = (s : Slot) → has_slot g.slots s ≡ true → All (λ v. v.ticket.0 < g.ticket.0) (line s)

-- the slot is among these
abbrev pub among : List Slot → Slot → Bool
among slots s = list_any (λ x. slot_eq x s) slots

-- a lease takes a slot for the want
abbrev pub takes : Bool → Want → Bool
takes true w = wants_shared w
takes false w = not (wants_shared w)
