-- The folder of a cache mount.
use Rattle.std.specs.Prelude.{◌≡◌, ℕ, ℤ, pos, negsuc, List, [], ◌∷◌, Option, Some, None, slice_get}
use Rattle.std.specs.List.{AllZip}
use Rattle.names.specs.declared.digest.Key.{Key}
use Rattle.names.specs.declared.folder.Base.{Base}
use Rattle.names.specs.declared.folder.FolderName.{FolderName}
use Rattle.names.specs.declared.folder.Mode.{Mode}
use Rattle.names.specs.declared.folder.Mode.TheVariants.{Shared, Private, Locked}
use Rattle.opsproto.specs.Scalars.{Text}
use Rattle.opsproto.specs.declared.exec.CacheOpt.{CacheOpt}
use Rattle.opsproto.specs.declared.exec.Mount.{Mount}
use Rattle.vertices.specs.OpChecks.{IsCache}

-- the output that an edge takes: the solver key of the vertex that it goes to, and the edge's index (this project's own)
pub record TakesOutput (keys : List Key) (edge : ℕ × ℕ) (output : Base) : Type 0 where
  pub key : slice_get keys edge.0 ≡ Some output.key
  pub index : output.index ≡ edge.1

-- the output that each edge takes, in order
abbrev pub TakesOutputs : List Key → List (ℕ × ℕ) → List Base → Type 0
TakesOutputs keys edges outputs = AllZip (TakesOutput keys) edges outputs

-- the id, or where it is empty the dest (Dockerfile reference)
abbrev pub id_or_dest : Text → Text → Text
id_or_dest [] dest = dest
id_or_dest (byte ∷ id) dest = byte ∷ id

-- SHARED = 0, PRIVATE = 1, LOCKED = 2 (ops.proto)
abbrev pub sharing_of : Mode → ℤ
sharing_of Shared = pos 0
sharing_of Private = pos 1
sharing_of Locked = pos 2

-- the output that a mount's input takes; input -1 is none (ops.proto)
abbrev pub base_of : List Base → ℤ → Option Base
base_of outputs (pos place) = slice_get outputs place
base_of outputs (negsuc number) = None

-- a cache mount has this folder, where the vertex's inputs take these outputs (this project's own)
pub record HasFolder (outputs : List Base) (mount : Mount Text) (folder : FolderName) : Type 0 where
  pub is_cache : IsCache mount
  pub cache : CacheOpt Text
  pub option : mount.cache ≡ Some cache
  pub id : folder.id ≡ id_or_dest cache.id mount.dest
  pub mode : sharing_of folder.mode ≡ cache.sharing
  pub base : folder.base ≡ base_of outputs mount.input
