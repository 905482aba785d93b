-- The one spelling of each part of a record. Numbers are big endian.
use Rattle.std.specs.Prelude.{ℕ, Bool, true, false, List, [], ◌∷◌, ◌++◌, length, Option, Some, None}
use Rattle.std.specs.Int.{w32, w64, to_be_bytes}
use Rattle.names.specs.declared.folder.Base.{Base}
use Rattle.names.specs.declared.folder.Mode.{Mode}
use Rattle.names.specs.declared.folder.Mode.TheVariants.{Shared, Private, Locked}
use Rattle.names.specs.declared.number.NodeId.{NodeId}
use Rattle.names.specs.Slots.{SlotParts}

-- four bytes
abbrev pub number32 : ℕ → List ℕ
number32 n = to_be_bytes w32 n

-- eight bytes
abbrev pub number64 : ℕ → List ℕ
number64 n = to_be_bytes w64 n

abbrev pub flag_bytes : Bool → List ℕ
flag_bytes false = 0 ∷ []
flag_bytes true = 1 ∷ []

abbrev pub mode_bytes : Mode → List ℕ
mode_bytes Shared = 0 ∷ []
mode_bytes Private = 1 ∷ []
mode_bytes Locked = 2 ∷ []

-- the length, and the bytes
abbrev pub id_bytes : List ℕ → List ℕ
id_bytes id = number64 (length id) ++ id

-- 0, or 1, the key and the index
abbrev pub base_bytes : Option Base → List ℕ
base_bytes None = 0 ∷ []
base_bytes (Some b) = 1 ∷ b.key.0.0 ++ number64 b.index

-- mode, id, base and instance
unfoldable pub slot_bytes : SlotParts → List ℕ
slot_bytes s = mode_bytes s.folder.mode ++ (id_bytes s.folder.id ++ (base_bytes s.folder.base ++ number32 s.instance))

-- 0 for none
unfoldable pub home_bytes : Option NodeId → List ℕ
home_bytes None = number32 0
home_bytes (Some n) = number32 n.0
