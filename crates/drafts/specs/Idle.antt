-- Which parked asks need no look once slots are free.
use Rattle.std.specs.Prelude.{◌≡◌, Bool, true, not, ◌&&◌, ◌||◌, List, [], Option, Some, None}
use Rattle.protocol.specs.Lists.{In}
use Rattle.protocol.specs.Names.{Slot, is_private, leased_wants}
use Rattle.protocol.specs.Machine.{Parked}
use Rattle.protocol.specs.Ledger.{Ledger, Lease, elsewhere, busy, is_leased, some_lease, has_slot}

-- the slots of a lease, if there is one
abbrev pub slots_under : Option Lease → List (Slot × Bool)
slots_under None = []
slots_under (Some g) = g.slots

-- the slot is of a LOCKED or SHARED folder, and in none of these leases
abbrev pub is_open : List Lease → Slot × Bool → Bool
is_open live x = not (is_private x.0.folder.mode) && not (some_lease live x.0)

-- the ask waits for the old home, or for a slot that is leased or was freed
abbrev pub waits_for : List (Slot × Bool) → Ledger → Parked → Bool
waits_for freed q p = elsewhere q p || busy (λ s. is_leased q s || has_slot freed s) (leased_wants p.tenure p.wants)

-- only the freed slots can let the ask be granted
abbrev pub IsIdle : List (Slot × Bool) → Ledger → Parked → Type 0
IsIdle freed q p = waits_for freed q p ≡ true

-- so it is with each of these asks
abbrev pub AreIdle : List (Slot × Bool) → Ledger → List Parked → Type 0
AreIdle freed q ps = (p : Parked) → In p ps → IsIdle freed q p
