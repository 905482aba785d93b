-- What is printed of a farm after its events.
use Rattle.std.specs.Prelude.{◌≡◌, ℕ, not, List}
use Rattle.std.specs.List.{list_any, flat_map}
use Rattle.std.specs.List.Sorted.{IsStrictlySortedBy}
use Rattle.names.specs.Slots.{slot_cmp}
use Rattle.protocol.specs.Lists.{is_nil}
use Rattle.protocol.specs.Names.{Slot, slot_eq}
use Rattle.protocol.specs.Machine.{LineVersion}
use Rattle.schedule.specs.Printing.{line_text}

-- the texts of these slots' lines, one after another
abbrev pub lines_of : (Slot → List LineVersion) → List Slot → List ℕ
lines_of line slots = flat_map (λ s. line_text s (line s)) slots

-- the slots that have a version, rising
pub record AreSlots (line : Slot → List LineVersion) (slots : List Slot) : Type 0 where
  pub rise : IsStrictlySortedBy slot_cmp slots
  pub exact : (s : Slot) → list_any (λ x. slot_eq x s) slots ≡ not (is_nil (line s))

-- the lines of the slots that have a version, in the slots' order
abbrev pub ArePrinted : (Slot → List LineVersion) → List ℕ → Type 0
ArePrinted line text = (slots : List Slot) × AreSlots line slots × (text ≡ lines_of line slots)
