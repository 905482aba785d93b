-- What is added to wants (this project's own).
use Rattle.std.specs.Prelude.{◌↔◌, ◌⊎◌, List}
use Rattle.std.specs.List.{Contains}
use Rattle.names.specs.declared.folder.FolderName.{FolderName}
use Rattle.farm_base.specs.declared.want.Want.{Want}
use Rattle.farm_base.specs.Wanted.{folders}
use Rattle.cachemounts.specs.CacheWants.{to_write}

-- the folders that `IsNew` holds of are added, and those that `IsToWrite` holds of become writable
pub record Adds (IsNew IsToWrite : FolderName → Type 0) (old new : List Want) : Type 0 where
  pub wanted : (folder : FolderName) → Contains (folders new) folder ↔ (Contains (folders old) folder ⊎ IsNew folder)
  pub written : (folder : FolderName) → Contains new (to_write folder) ↔ (Contains old (to_write folder) ⊎ IsToWrite folder)
