-- What the executor of a lease is given (this project's own).
use Rattle.std.specs.Prelude.{◌≡◌, ◌⊎◌, ℕ, ℤ, pos, negsuc, List, Option, Some, None, slice_get}
use Rattle.std.specs.List.{AllZip}
use Rattle.names.specs.declared.digest.Digest.{Digest}
use Rattle.names.specs.declared.digest.Key.{Key}
use Rattle.names.specs.declared.folder.FolderName.{FolderName}
use Rattle.farm_base.specs.declared.want.Want.{Want}
use Rattle.opsproto.specs.Scalars.{Text}
use Rattle.opsproto.specs.declared.exec.ExecOp.{ExecOp}
use Rattle.opsproto.specs.declared.exec.Mount.{Mount}
use Rattle.opsproto.specs.Mounts.{mounts_in}
use Rattle.opsproto.specs.declared.op.Kind.{Kind}
use Rattle.opsproto.specs.declared.op.Kind.TheVariants.{Exec, Opaque, Bare}
use Rattle.vertices.specs.declared.vertex.Vertex.{Vertex}
use Rattle.solverkeys.specs.Keyed.{KeyedParts}
use Rattle.cachemounts.specs.declared.viewing.CacheView.{CacheView}
use Rattle.cachemounts.specs.CacheViews.{AreViews}
use Rattle.folders.specs.Files.{Files}
use Rattle.jobs.specs.declared.task.Task.{Task}
use Rattle.executions.specs.Calls.{Adds}
use Rattle.executions.specs.declared.call.Call.{Call}
use Rattle.executions.specs.declared.call.ExecOutcome.{ExecOutcome}
use Rattle.executions.specs.declared.task.View.{View}
use Rattle.executions.specs.TaskParts.{TaskParts}

-- the command of an op that runs one
abbrev pub command_in : Kind Text → Option (ExecOp Text)
command_in (Exec exec) = Some exec
command_in (Opaque number) = None
command_in Bare = None

-- the output that a mount's input takes; input -1 is none (ops.proto)
abbrev pub output_at : List Digest → ℤ → Option Digest
output_at outputs (pos place) = slice_get outputs place
output_at outputs (negsuc number) = None

-- the view of a cache mount
pub record IsViewAt (seen : FolderName → Files) (wants : List Want) (outputs : List Digest) (mounts : List (Mount Text))
    (place : CacheView) (view : View) : Type 0 where
  pub mount : Mount Text
  pub want : Want
  pub mount_there : slice_get mounts place.mount ≡ Some mount
  pub want_there : slice_get wants place.want ≡ Some want
  pub here : view.mount ≡ place.mount
  pub folder : view.folder ≡ want.folder
  pub writable : view.writable ≡ want.writable
  pub files : view.files ≡ seen want.folder
  pub base : view.base ≡ output_at outputs mount.input

-- what is given for a task that is the vertex of a number: what the vertex does, the outputs that its inputs name,
-- and a view of each of its cache mounts, in order
pub record IsGiven (k : KeyedParts) (number : ℕ) (task : Task) (seen : FolderName → Files) (wants : List Want)
    (given : TaskParts) : Type 0 where
  pub vertex : Vertex
  pub there : slice_get k.graph.vertices number ≡ Some vertex
  pub key : given.key ≡ task.key
  pub stripped : given.stripped ≡ vertex.op.stripped
  pub exec : given.exec ≡ command_in vertex.op.kind
  pub inputs : given.inputs ≡ task.inputs.items
  pub places : List CacheView
  pub places_are : AreViews k.graph k.keys number wants places
  pub views : AllZip (IsViewAt seen wants task.inputs.items (mounts_in vertex.op.kind)) places given.views

-- the outcome is an answer to what was given
abbrev pub Answered : (TaskParts → Type 0) → (TaskParts → ExecOutcome → Type 0) → ExecOutcome → Type 0
Answered IsGiven answers outcome = (given : TaskParts) × IsGiven given × answers given outcome

-- nothing was called, or the executor once for the key, with such a task: the outcome is its answer
abbrev pub CalledOnceAtMost : Key → (TaskParts → Type 0) → (TaskParts → ExecOutcome → Type 0) → List Call → List Call
    → Type 0
CalledOnceAtMost key IsGiven answers old new =
    (new ≡ old) ⊎ ((outcome : ExecOutcome) × Adds key old outcome new × Answered IsGiven answers outcome)
