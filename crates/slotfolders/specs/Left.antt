-- What edits leave in the slots of a lease (this project's own).
use Rattle.std.specs.Prelude.{nat_le, Bool, true, ◌&&◌, not, List, [], ◌∷◌, map, filter, length}
use Rattle.std.specs.List.{list_all, list_any}
use Rattle.std.specs.Map.{lookup}
use Rattle.std.specs.Option.{unwrap_or}
use Rattle.names.specs.Slots.{SlotParts}
use Rattle.names.specs.declared.folder.FolderName.{FolderName}
use Rattle.farm_base.specs.declared.message.GrantedSlot.{GrantedSlot}
use Rattle.farm_base.specs.declared.left.Left.{Left}
use Rattle.farm_base.specs.declared.want.Want.{Want}
use Rattle.names.specs.Folders.{folder_eq}
use Rattle.protocol.specs.Names.{is_shared}
use Rattle.folders.specs.declared.edit.Edit.{Edit}
use Rattle.folders.specs.Edits.{edited_all}
use Rattle.folders.specs.Files.{Files, folder_bytes, most_bytes}
use Rattle.slotfolders.specs.Seen.{Named}

-- edits of a folder, by its name
abbrev pub FolderEdits : Type 0
FolderEdits = FolderName × List Edit

-- the folder is wanted to be written
abbrev pub may_write : List Want → FolderName → Bool
may_write wants name = list_any (λ w. folder_eq name w.folder && w.writable) wants

-- the edits are of this folder
abbrev pub is_of : FolderName → FolderEdits → Bool
is_of name e = folder_eq name e.0

-- no two are of one folder
abbrev pub differ : List FolderEdits → Bool
differ [] = true
differ (e ∷ es) = not (list_any (is_of e.0) es) && differ es

-- at most 16 MiB of folder bytes
abbrev pub is_small : Named → Bool
is_small folder = nat_le (length (folder_bytes folder.1)) most_bytes

-- each folder after its edits
abbrev pub changed : (FolderName → Files) → List FolderEdits → List Named
changed seen edits = map (λ e. (e.0, edited_all (seen e.0) e.1)) edits

-- each folder may be written, and none is named twice
abbrev pub are_allowed : List Want → List FolderEdits → Bool
are_allowed wants edits = list_all (λ e. may_write wants e.0) edits && differ edits

-- the edits can be made: they are allowed, and no folder gets too large
abbrev pub can_be_made : (FolderName → Files) → List Want → List FolderEdits → Bool
can_be_made seen wants edits = are_allowed wants edits && list_all is_small (changed seen edits)

-- the slot gets a content at the end: it may be written. The edits of a SHARED folder go to who holds its tenure
abbrev pub is_left : GrantedSlot → Bool
is_left u = u.writable && not (is_shared u.slot.folder.mode)

-- the slot with the bytes of its folder: as it was changed, or as it was seen where it wasn't
abbrev pub left_in : (FolderName → Files) → List Named → SlotParts → Left
left_in seen changed slot =
    record { slot = slot; content = folder_bytes (unwrap_or (lookup (folder_eq slot.folder) changed) (seen slot.folder)) }

-- the content of each such slot at the end
abbrev pub lefts : (FolderName → Files) → List Named → List GrantedSlot → List Left
lefts seen changed slots = map (λ u. left_in seen changed u.slot) (filter is_left slots)
