-- The SHARED folders that a node has open, and the batches that changed them (this project's own).
use Rattle.std.specs.Prelude.{⊤, IsOk, ◌≡◌, ℕ, ◌<◌, Bool, true, false, List, [], ◌∷◌, ◌++◌, length, drop, Option, Some, None, Result, Ok, Err, slice_get}
use Rattle.std.specs.List.{fold, find, list_any, remove}
use Rattle.std.specs.Option.{option_map}
use Rattle.names.specs.declared.folder.FolderName.{FolderName}
use Rattle.names.specs.declared.number.Ticket.{Ticket}
use Rattle.names.specs.Folders.{folder_eq}
use Rattle.farm_base.specs.Kinds.{is_tenure}
use Rattle.protocol.specs.Names.{Shared}
use Rattle.folders.specs.declared.edit.Edit.{Edit}
use Rattle.folders.specs.Edits.{edited_all}
use Rattle.folders.specs.Files.{Files, folder_bytes, most_bytes}
use Rattle.farmboard.specs.declared.tokens.Running.{Running}
use Rattle.slotfolders.specs.declared.batch.Batch.{Batch}
use Rattle.executions.specs.declared.refusal.SharedRefusal.{SharedRefusal}
use Rattle.executions.specs.declared.refusal.SharedRefusal.TheVariants.{Twice, TooLarge, OutOfMemory, NotOpen, BadContents}
use Rattle.slotfolders.specs.Batches.{batch, with_batch, is_by}
use Rattle.executions.specs.Leased.{held, leased}
use Rattle.slotfolders.specs.Seen.{folder_at, read_all}

-- a folder that is open: the execution of its tenure, and how many batches there were when it was opened
pub record Opened : Type 0 where
  pub folder : FolderName
  pub running : Running
  pub since : ℕ

-- all batches that were ever made, and the folders that are open
pub record Live : Type 0 where
  pub batches : List Batch
  pub folders : List Opened

-- an open folder: what its tenure began with, and then the batches since it was opened, one after the other
abbrev pub files_of : List Batch → Opened → Files
files_of batches o = fold (with_batch o.folder) (folder_at (leased o.running) o.folder) (drop o.since batches)

abbrev pub is_named : FolderName → Opened → Bool
is_named name o = folder_eq name o.folder

-- the open folder of a name, if there is one
abbrev pub files_in : Live → FolderName → Option Files
files_in live name = option_map (files_of live.batches) (find (is_named name) live.folders)

-- the ticket changed the folder before
abbrev pub has_changed : Live → Ticket → FolderName → Bool
has_changed live ticket name = list_any (is_by ticket name) live.batches

-- the execution of the tenure of a SHARED folder
pub record IsTenureOf (r : Running) (f : FolderName) : Type 0 where
  pub tenure : is_tenure r.grant.kind ≡ true
  pub shared : f.mode ≡ Shared
  pub wants : r.wants ≡ record { folder = f; writable = true } ∷ []

-- the folder is open from now on, with the files that its tenure's contents spell, unless one of these isn't folder bytes
abbrev pub Opens : Live → FolderName → Running → Result ⊤ (Running × SharedRefusal) → Live → Type 0
Opens old f r (Ok tt) new = IsOk (read_all (held r))
    × (new ≡ record old { folders = old.folders ++ record { folder = f; running = r; since = length old.batches } ∷ [] })
Opens old f r (Err (token, BadContents)) new = ((slot : _) × (read_all (held r) ≡ Err slot)) × (token ≡ r) × (new ≡ old)
Opens old f r (Err (token, OutOfMemory)) new = (token ≡ r) × (new ≡ old)
Opens old f r (Err (token, Twice)) new = ⊥
Opens old f r (Err (token, TooLarge)) new = ⊥
Opens old f r (Err (token, NotOpen)) new = ⊥

-- what is open under a name, or that nothing is
abbrev pub Views : Live → FolderName → Result Files SharedRefusal → Type 0
Views live name (Ok files) = files_in live name ≡ Some files
Views live name (Err NotOpen) = files_in live name ≡ None
Views live name (Err OutOfMemory) = ⊤
Views live name (Err Twice) = ⊥
Views live name (Err TooLarge) = ⊥
Views live name (Err BadContents) = ⊥

-- one whole batch is appended, or nothing
abbrev pub Applies : Live → Ticket → FolderName → List Edit → Result ⊤ SharedRefusal → Live → Type 0
Applies old ticket name edits (Ok tt) new = ((files : Files) × (files_in old name ≡ Some files))
    × (has_changed old ticket name ≡ false)
    × (new ≡ record old { batches = old.batches ++ batch ticket name edits ∷ [] })
Applies old ticket name edits (Err NotOpen) new = (files_in old name ≡ None) × (new ≡ old)
Applies old ticket name edits (Err Twice) new = (has_changed old ticket name ≡ true) × (new ≡ old)
Applies old ticket name edits (Err TooLarge) new =
    ((files : Files) × (files_in old name ≡ Some files) × (most_bytes < length (folder_bytes (edited_all files edits))))
    × (new ≡ old)
Applies old ticket name edits (Err OutOfMemory) new = new ≡ old
Applies old ticket name edits (Err BadContents) new = ⊥

-- the folder isn't open any more: its tenure is given back, with the bytes of the folder
abbrev pub Closes : Live → FolderName → Result (Running × List ℕ) SharedRefusal → Live → Type 0
Closes old name (Ok (token, content)) new = (place : ℕ) × (o : Opened) × (slice_get old.folders place ≡ Some o)
    × (o.folder ≡ name)
    × (token ≡ o.running) × (content ≡ folder_bytes (files_of old.batches o))
    × (new ≡ record old { folders = remove old.folders place })
Closes old name (Err NotOpen) new = (files_in old name ≡ None) × (new ≡ old)
Closes old name (Err OutOfMemory) new = new ≡ old
Closes old name (Err Twice) new = ⊥
Closes old name (Err TooLarge) new = ⊥
Closes old name (Err BadContents) new = ⊥

-- the folder that was opened last isn't open any more
abbrev pub Pops : Live → Option Running → Live → Type 0
Pops old None new = (old.folders ≡ []) × (new ≡ old)
Pops old (Some token) new = (o : Opened) × (old.folders ≡ new.folders ++ o ∷ []) × (token ≡ o.running)
    × (new.batches ≡ old.batches)
