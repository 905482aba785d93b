-- The batches of edits of SHARED folders (this project's own).
use Rattle.std.specs.Prelude.{Bool, ◌==◌, ◌&&◌, List, if◌then◌else◌}
use Rattle.names.specs.declared.folder.FolderName.{FolderName}
use Rattle.names.specs.declared.number.Ticket.{Ticket}
use Rattle.names.specs.Folders.{folder_eq}
use Rattle.folders.specs.declared.edit.Edit.{Edit}
use Rattle.folders.specs.Edits.{edited_all}
use Rattle.folders.specs.Files.{Files}
use Rattle.slotfolders.specs.declared.batch.Batch.{Batch}

abbrev pub batch : Ticket → FolderName → List Edit → Batch
batch ticket folder edits = record { ticket = ticket; folder = folder; edits = edits }

-- a folder after a batch, which changes it if it is of that folder
abbrev pub with_batch : FolderName → Files → Batch → Files
with_batch name files b = if folder_eq name b.folder then edited_all files b.edits else files

-- the batch is of this ticket and folder
abbrev pub is_by : Ticket → FolderName → Batch → Bool
is_by ticket name b = (b.ticket.0 == ticket.0) && folder_eq name b.folder
