-- The vertex of a task, and what its execution is given (this project's own).
use Rattle.std.specs.Prelude.{◌≡◌, ◌<◌, List, length, map, Some, slice_get}
use Rattle.std.specs.List.{All, Contains}
use Rattle.names.specs.declared.digest.Key.{Key}
use Rattle.names.specs.declared.folder.FolderName.{FolderName}
use Rattle.names.specs.declared.folder.Mode.TheVariants.{Shared}
use Rattle.farm_base.specs.declared.want.Want.{Want}
use Rattle.folders.specs.Files.{Files}
use Rattle.executions.specs.Live.{Live, files_in}
use Rattle.vertices.specs.Edges.{list_at}
use Rattle.cachemounts.specs.CacheWants.{AreWants}
use Rattle.jobs.specs.declared.task.Task.{Task}
use Rattle.solving.specs.declared.work.Place.{Place}

-- a vertex of a graph, which has the key there
pub record IsPlaceOf (wanted : Key) (p : Place) : Type 0 where
  pub within : p.vertex < length p.keyed.now.graph.vertices
  pub key : slice_get p.keyed.now.keys p.vertex ≡ Some wanted

-- the task is that of the vertex, and these are its wants
pub record Fits (p : Place) (task : Task) (ws : List Want) : Type 0 where
  pub place : IsPlaceOf task.key p
  pub inputs : length (list_at p.keyed.now.graph.edges p.vertex) ≡ length task.inputs.items
  pub wants : AreWants p.keyed.now.graph p.keyed.now.keys p.vertex ws

-- the folder of the want is among these, if it is SHARED
abbrev pub IsSeenIn : List (FolderName × Files) → Want → Type 0
IsSeenIn folders want = want.folder.mode ≡ Shared
    → Contains (map (λ (folder : FolderName × Files). folder.0) folders) want.folder

-- each of these folders is open, with these files
abbrev pub AreOpen : Live → List (FolderName × Files) → Type 0
AreOpen live = All (λ (folder : FolderName × Files). files_in live folder.0 ≡ Some folder.1)
