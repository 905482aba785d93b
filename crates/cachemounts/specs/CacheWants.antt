-- What a vertex wants: the folders of its cache mounts, as a set (this project's own).
use Rattle.std.specs.Prelude.{◌≡◌, ◌↔◌, ℕ, true, false, List, Some, slice_get}
use Rattle.std.specs.List.{Contains}
use Rattle.names.specs.declared.digest.Key.{Key}
use Rattle.names.specs.declared.folder.Base.{Base}
use Rattle.names.specs.declared.folder.FolderName.{FolderName}
use Rattle.farm_base.specs.declared.want.Want.{Want}
use Rattle.farm_base.specs.Wanted.{folders}
use Rattle.opsproto.specs.Scalars.{Text}
use Rattle.opsproto.specs.declared.exec.Mount.{Mount}
use Rattle.opsproto.specs.Mounts.{mounts_in}
use Rattle.vertices.specs.declared.vertex.Vertex.{Vertex}
use Rattle.vertices.specs.Edges.{list_at}
use Rattle.vertices.specs.Loading.{GraphParts}
use Rattle.cachemounts.specs.CacheFolders.{TakesOutputs, HasFolder}

-- the want to write a folder
abbrev pub to_write : FolderName → Want
to_write folder = record { folder = folder; writable = true }

-- some cache mount has the folder
pub record IsWanted (outputs : List Base) (mounts : List (Mount Text)) (folder : FolderName) : Type 0 where
  pub mount : Mount Text
  pub has : Contains mounts mount
  pub folder_is : HasFolder outputs mount folder

-- some cache mount that isn't readonly has it
pub record IsWritten (outputs : List Base) (mounts : List (Mount Text)) (folder : FolderName) : Type 0 where
  pub mount : Mount Text
  pub has : Contains mounts mount
  pub folder_is : HasFolder outputs mount folder
  pub writable : mount.readonly ≡ false

-- exactly the folders of the cache mounts, writable exactly where some mount isn't readonly
pub record AreWantsOf (outputs : List Base) (mounts : List (Mount Text)) (wants : List Want) : Type 0 where
  pub wanted : (folder : FolderName) → Contains (folders wants) folder ↔ IsWanted outputs mounts folder
  pub written : (folder : FolderName) → Contains wants (to_write folder) ↔ IsWritten outputs mounts folder

-- the vertex of a number has these mounts, and its inputs take these outputs
pub record HasMounts (g : GraphParts) (keys : List Key) (number : ℕ) (outputs : List Base) (mounts : List (Mount Text)) : Type 0 where
  pub vertex : Vertex
  pub there : slice_get g.vertices number ≡ Some vertex
  pub mounts_are : mounts ≡ mounts_in vertex.op.kind
  pub outputs_are : TakesOutputs keys (list_at g.edges number) outputs

-- the wants of a vertex of a graph that has these keys
pub record AreWants (g : GraphParts) (keys : List Key) (number : ℕ) (wants : List Want) : Type 0 where
  pub outputs : List Base
  pub mounts : List (Mount Text)
  pub has : HasMounts g keys number outputs mounts
  pub wants_are : AreWantsOf outputs mounts wants
