-- Slots.
use Rattle.std.specs.Prelude.{◌≡◌, ℕ, ◌≤◌, Bool, ◌&&◌, nat_eq}
use Rattle.std.specs.declared.cmp.Ordering.{Ordering}
use Rattle.std.specs.Ordering.{nat_cmp, ordering_then}
use Rattle.names.specs.declared.folder.FolderName.{FolderName}
use Rattle.names.specs.declared.folder.Mode.{Mode}
use Rattle.names.specs.declared.folder.Mode.TheVariants.{Shared, Private, Locked}
use Rattle.names.specs.declared.limits.TheConstants.{INSTANCES}
use Rattle.names.specs.Folders.{folder_eq, folder_cmp}

-- a slot, as contracts see it
pub record SlotParts : Type 0 where
  pub folder : FolderName
  pub instance : ℕ

-- a SHARED or LOCKED folder has only the instance 0, a PRIVATE one 1 to 4,096
abbrev pub IsInstance : Mode → ℕ → Type 0
IsInstance Shared n = n ≡ 0
IsInstance Private n = (1 ≤ n) × (n ≤ INSTANCES)
IsInstance Locked n = n ≡ 0

-- the same folder and instance
abbrev pub slot_eq : SlotParts → SlotParts → Bool
slot_eq a b = folder_eq a.folder b.folder && nat_eq a.instance b.instance

-- by folder, and then by instance
abbrev pub slot_cmp : SlotParts → SlotParts → Ordering
slot_cmp a b = ordering_then (folder_cmp a.folder b.folder) (nat_cmp a.instance b.instance)
