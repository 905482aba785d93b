-- Reading a slot: mode, id, base and instance. Each is judged as soon as it is whole, and then the order.
use Rattle.std.specs.Prelude.{ℕ, zero, suc, nat_le, nat_lt, ◌^◌, ◌==◌, Bool, true, ◌&&◌, if◌then◌else◌, List, [], ◌∷◌, Option, Some, None, Result, Ok, Err}
use Rattle.std.specs.Int.{w32, w64}
use Rattle.std.specs.Ordering.{is_lt}
use Rattle.names.specs.declared.limits.TheConstants.{INSTANCES}
use Rattle.names.specs.declared.folder.Base.{Base}
use Rattle.names.specs.declared.folder.Mode.{Mode}
use Rattle.names.specs.declared.folder.Mode.TheVariants.{Shared, Private, Locked}
use Rattle.names.specs.Slots.{SlotParts, slot_cmp}
use Rattle.recordparts.specs.declared.layout.Layout.{Layout}
use Rattle.recordparts.specs.declared.refusal.Flaw.TheVariants.{Range, Order}
use Rattle.recordparts.specs.declared.refusal.RecordRefusal.{RecordRefusal}
use Rattle.recordparts.specs.declared.refusal.RecordRefusal.TheVariants.{Truncated, NotCanonical}
use Rattle.recordparts.specs.Layouts.{has_shared}
use Rattle.codec.specs.Steps.{◌>>=◌}
use Rattle.recordparts.specs.Parts.{Part, passed, number_at, flag_at, digest_at, id_at}

-- 0 SHARED, 1 PRIVATE, 2 LOCKED
abbrev pub mode_of : Layout → ℕ → Result Mode RecordRefusal
mode_of layout zero = passed Range (has_shared layout) Shared
mode_of layout (suc zero) = Ok Private
mode_of layout (suc (suc zero)) = Ok Locked
mode_of layout (suc (suc (suc n))) = Err (NotCanonical Range)

unfoldable pub mode_at : Layout → List ℕ → Part Mode
mode_at layout [] = Err Truncated
mode_at layout (byte ∷ rest) = do
  mode ← mode_of layout byte
  Ok (mode, rest)

-- a key, and an index below 2 ^ 63
unfoldable pub output_at : List ℕ → Part Base
output_at bytes = do
  key ← digest_at bytes
  index ← number_at w64 0 0xffff_ffff_ffff_ffff key.1
  passed Range (nat_lt index.0 (2 ^ 63)) (record { key = record { 0 = key.0 }; index = index.0 }, index.1)

-- 0, or 1 and an output
unfoldable pub base_at : List ℕ → Part (Option Base)
base_at bytes = do
  some ← flag_at bytes
  if some.0 then (do
    output ← output_at some.1
    Ok (Some output.0, output.1)) else Ok (None, some.1)

-- a SHARED or LOCKED folder has only the instance 0, a PRIVATE one 1 to 4,096
abbrev pub has_instance : Mode → ℕ → Bool
has_instance Shared n = n == 0
has_instance Private n = nat_le 1 n && nat_le n INSTANCES
has_instance Locked n = n == 0

unfoldable pub slot_at : Layout → List ℕ → Part SlotParts
slot_at layout bytes = do
  mode ← mode_at layout bytes
  id ← id_at mode.1
  base ← base_at id.1
  instance ← number_at w32 0 0xffff_ffff base.1
  passed Range (has_instance mode.0 instance.0) (record { folder = record { id = id.0; mode = mode.0; base = base.0 }; instance = instance.0 }, instance.1)

-- the slot is above the one before it
abbrev pub is_slot_above : Option SlotParts → SlotParts → Bool
is_slot_above None slot = true
is_slot_above (Some before) slot = is_lt (slot_cmp before slot)

-- a slot of a list that rises
unfoldable pub slot_after : Layout → Option SlotParts → List ℕ → Part SlotParts
slot_after layout before bytes = do
  slot ← slot_at layout bytes
  passed Order (is_slot_above before slot.0) slot
