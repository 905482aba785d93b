-- The names that the protocol is about, and tests of them that compute (docs/PROTOCOL.md, "Names").
use Rattle.std.specs.Prelude.{Bool, true, false, not, ◌&&◌, ◌||◌, List, [], ◌∷◌, filter}
use Rattle.std.specs.List.{list_any}
use Rattle.names.specs.Slots.{SlotParts}
pub use Rattle.names.specs.Slots.{IsInstance, slot_eq}
pub use Rattle.names.specs.Digests.{digest_eq}
pub use Rattle.names.specs.declared.folder.Mode.{Mode}
pub use Rattle.names.specs.declared.folder.Mode.TheVariants.{Shared, Private, Locked}
pub use Rattle.names.specs.declared.folder.FolderName.{FolderName}
pub use Rattle.names.specs.declared.digest.Digest.{Digest}
pub use Rattle.names.specs.declared.number.NodeId.{NodeId}
pub use Rattle.names.specs.declared.number.Life.{Life}
pub use Rattle.names.specs.declared.number.Ask.{Ask}
pub use Rattle.names.specs.declared.number.Ticket.{Ticket}
pub use Rattle.farm_base.specs.declared.want.Want.{Want}

abbrev pub Slot : Type 0
Slot = SlotParts

abbrev pub is_shared : Mode → Bool
is_shared Shared = true
is_shared Private = false
is_shared Locked = false

abbrev pub is_private : Mode → Bool
is_private Shared = false
is_private Private = true
is_private Locked = false

-- a slot that two executions never have at once: an instance of a PRIVATE folder, or the slot of a SHARED one, which its
-- tenure has. The holder of a LOCKED slot whose lease was
-- withdrawn may still run beside the next one; its ticket fences it
abbrev pub is_alone : Slot → Bool
is_alone s = is_private s.folder.mode || is_shared s.folder.mode

abbrev pub slots_eq : List Slot → List Slot → Bool
slots_eq [] [] = true
slots_eq [] (y ∷ ys) = false
slots_eq (x ∷ xs) [] = false
slots_eq (x ∷ xs) (y ∷ ys) = slot_eq x y && slots_eq xs ys

-- the one slot of a SHARED or LOCKED folder
abbrev pub only_slot : FolderName → Slot
only_slot f = record { folder = f; instance = 0 }

abbrev pub wants_shared : Want → Bool
wants_shared w = is_shared w.folder.mode

-- some want is of a SHARED folder
abbrev pub any_shared : List Want → Bool
any_shared wants = list_any wants_shared wants

-- the wants of which a lease takes slots: a tenure of its SHARED folder, any other lease of the other folders
abbrev pub leased_wants : Bool → List Want → List Want
leased_wants true wants = filter wants_shared wants
leased_wants false wants = filter (λ w. not (wants_shared w)) wants

-- what the ask for a tenure wants: the SHARED folder of this name, writable
abbrev pub tenure_wants : FolderName → List Want
tenure_wants f = record { folder = record f { mode = Shared }; writable = true } ∷ []
