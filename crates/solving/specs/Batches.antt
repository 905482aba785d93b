-- What an execution changes in the SHARED folders that are open (this project's own).
use Rattle.std.specs.Prelude.{◌≡◌, true, Err, List, ◌∷◌, map, filter, ◌++◌}
use Rattle.names.specs.declared.digest.Key.{Key}
use Rattle.names.specs.declared.number.Ticket.{Ticket}
use Rattle.protocol.specs.Names.{is_shared}
use Rattle.slotfolders.specs.declared.batch.Batch.{Batch}
use Rattle.executions.specs.declared.refusal.SharedRefusal.{SharedRefusal}
use Rattle.slotfolders.specs.Left.{FolderEdits}
use Rattle.slotfolders.specs.Batches.{batch}
use Rattle.executions.specs.Live.{Live, Applies}
use Rattle.solving.specs.declared.fault.FarmFault.{FarmFault}
use Rattle.solving.specs.Faults.{of_edits}

-- a batch of each SHARED folder that is edited, under the execution's ticket
abbrev pub batches_of : Ticket → List FolderEdits → List Batch
batches_of ticket edits = map (λ e. batch ticket e.0 e.1) (filter (λ e. is_shared e.0.mode) edits)

-- these batches are made, one after the other
abbrev pub with_batches : List Batch → Live → Live
with_batches more live = record live { batches = live.batches ++ more }

-- the batches of the first edits are made, and the next edits of a SHARED folder are refused, which ends the run with this fault
pub record IsStopped (key : Key) (ticket : Ticket) (edits : List FolderEdits) (old new : Live) (fault : FarmFault) : Type 0 where
  pub made : List FolderEdits
  pub next : FolderEdits
  pub rest : List FolderEdits
  pub whole : edits ≡ made ++ next ∷ rest
  pub shared : is_shared next.0.mode ≡ true
  pub batches : new ≡ with_batches (batches_of ticket made) old
  pub refusal : SharedRefusal
  pub refuses : Applies new ticket next.0 next.1 (Err refusal) new
  pub why : fault ≡ of_edits key refusal
