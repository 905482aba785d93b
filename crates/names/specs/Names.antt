-- The texts of folders and slots: the mode, the id with its escapes, the base and the instance, one spelling each.
use Rattle.std.specs.Prelude.{ℕ, ◌<◌, ◌^◌, List, [], ◌∷◌, ◌++◌, Option, Some, None, codes, decimal}
use Rattle.std.specs.Str.{IsUtf8}
use Rattle.hex.specs.Hex.{IsBytes}
use Rattle.names.specs.declared.folder.Base.{Base}
use Rattle.names.specs.declared.folder.FolderName.{FolderName}
use Rattle.names.specs.declared.folder.Mode.{Mode}
use Rattle.names.specs.declared.folder.Mode.TheVariants.{Shared, Private, Locked}
use Rattle.names.specs.Digests.{IsDigest, key_text}
use Rattle.names.specs.Escapes.{id_text}
use Rattle.names.specs.Slots.{SlotParts, IsInstance}

-- `shared:`, `private:` or `locked:`
abbrev pub mode_text : Mode → List ℕ
mode_text Shared = codes "shared:"
mode_text Private = codes "private:"
mode_text Locked = codes "locked:"

-- the digits of the key, `.`, and the index
abbrev pub output_text : Base → List ℕ
output_text b = key_text b.key ++ 46 ∷ decimal b.index

-- `@` and the base, or nothing
abbrev pub base_text : Option Base → List ℕ
base_text None = []
base_text (Some b) = 64 ∷ output_text b

-- the mode, the id and the base
abbrev pub folder_text : FolderName → List ℕ
folder_text f = mode_text f.mode ++ (id_text f.id ++ base_text f.base)

-- `#` and the instance of a PRIVATE folder
abbrev pub instance_text : Mode → ℕ → List ℕ
instance_text Shared n = []
instance_text Private n = 35 ∷ decimal n
instance_text Locked n = []

-- the text of the folder, and for a PRIVATE folder the instance
abbrev pub slot_text : SlotParts → List ℕ
slot_text s = folder_text s.folder ++ instance_text s.folder.mode s.instance

-- holds of each base of the program
pub record IsOutput (b : Base) : Type 0 where
  pub key : IsDigest b.key.0
  pub index : b.index < 2 ^ 63

-- the same, if there is a base
abbrev pub IsBase : Option Base → Type 0
IsBase None = Unit {0}
IsBase (Some b) = IsOutput b

-- holds of each folder name of the program
pub record IsName (f : FolderName) : Type 0 where
  pub bytes : IsBytes f.id
  pub text : IsUtf8 f.id
  pub base : IsBase f.base

-- holds of each slot of the program
pub record IsSlot (s : SlotParts) : Type 0 where
  pub folder : IsName s.folder
  pub instance : IsInstance s.folder.mode s.instance
