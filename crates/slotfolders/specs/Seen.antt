-- The folders that an execution under a lease sees (this project's own).
use Rattle.std.specs.Prelude.{⊤, ◌≡◌, ℕ, List, [], ◌∷◌, if◌then◌else◌, Result, Ok, Err}
use Rattle.std.specs.Map.{lookup}
use Rattle.std.specs.Option.{unwrap_or}
use Rattle.codec.specs.Steps.{◌>>=◌}
use Rattle.names.specs.Slots.{SlotParts}
use Rattle.names.specs.declared.folder.FolderName.{FolderName}
use Rattle.farm_base.specs.declared.message.GrantedSlot.{GrantedSlot}
use Rattle.names.specs.Folders.{folder_eq}
use Rattle.protocol.specs.Names.{is_shared}
use Rattle.folders.specs.declared.refusal.FolderRefusal.{FolderRefusal}
use Rattle.folders.specs.Files.{Files}
use Rattle.folders.specs.Reading.{folder_of}
use Rattle.slotfolders.specs.declared.refusal.RunRefusal.{RunRefusal}
use Rattle.slotfolders.specs.declared.refusal.RunRefusal.TheVariants.{BadContents, BadEdits, OutOfMemory}

-- a slot of a lease, with the content that it began from
abbrev pub LeasedContent : Type 0
LeasedContent = GrantedSlot × List ℕ

-- a folder and its name
abbrev pub Named : Type 0
Named = FolderName × Files

-- the folder as it was read, or the slot whose content isn't folder bytes
abbrev pub read_as : GrantedSlot → Result Files FolderRefusal → Result Named SlotParts
read_as u (Ok files) = Ok (u.slot.folder, files)
read_as u (Err refusal) = Err u.slot

abbrev pub read_one : LeasedContent → Result Named SlotParts
read_one h = read_as h.0 (folder_of h.1)

-- the folders that the contents spell, or the first slot whose content spells none
abbrev pub read_all : List LeasedContent → Result (List Named) SlotParts
read_all [] = Ok []
read_all (h ∷ hs) = read_one h >>= λ first. read_all hs >>= λ others. Ok (first ∷ others)

-- the folder of a name, the empty one where none has it
abbrev pub folder_at : List Named → FolderName → Files
folder_at folders name = unwrap_or (lookup (folder_eq name) folders) []

-- the folder of a name: a SHARED one is the one handed in, any other that of the lease's slot
abbrev pub folder_seen : List Named → List Named → FolderName → Files
folder_seen leased shared name = if is_shared name.mode then folder_at shared name else folder_at leased name

-- what was returned is what reading gives, unless memory ran out
abbrev pub IsOpened : {X : Type 0} → Result X RunRefusal → Result X SlotParts → Type 0
IsOpened (Ok x) read = read ≡ Ok x
IsOpened (Err (BadContents slot)) read = read ≡ Err slot
IsOpened (Err BadEdits) read = ⊥
IsOpened (Err OutOfMemory) read = ⊤
