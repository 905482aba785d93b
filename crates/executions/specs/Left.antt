-- What an execution leaves in the slots of its lease (this project's own).
use Rattle.std.specs.Prelude.{Bool, true, List, []}
use Rattle.names.specs.declared.folder.FolderName.{FolderName}
use Rattle.farm_base.specs.declared.message.GrantedSlot.{GrantedSlot}
use Rattle.farm_base.specs.declared.left.Left.{Left}
use Rattle.farm_base.specs.declared.want.Want.{Want}
use Rattle.folders.specs.Files.{Files}
use Rattle.slotfolders.specs.Left.{can_be_made, changed, lefts}
use Rattle.executions.specs.declared.call.ExecOutcome.{ExecOutcome}
use Rattle.executions.specs.declared.call.ExecOutcome.TheVariants.{Done, Failed, OutOfMemory}

-- an execution that is over has only edits that can be made
abbrev pub is_fit : (FolderName → Files) → List Want → ExecOutcome → Bool
is_fit seen wants (Done outputs edits) = can_be_made seen wants edits
is_fit seen wants (Failed status) = true
is_fit seen wants OutOfMemory = true

-- where the execution failed, nothing is left
abbrev pub news_of : (FolderName → Files) → List GrantedSlot → ExecOutcome → List Left
news_of seen slots (Done outputs edits) = lefts seen (changed seen edits) slots
news_of seen slots (Failed status) = []
news_of seen slots OutOfMemory = []
